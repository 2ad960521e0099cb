-- The configuration from which a run begins is sound.
use Prim.Native.Nat.{ℕ}
use mathlib.Core.Path.{◌≡◌, refl, ap, ◌∙◌}
use mathlib.Core.Bool.{false}
use mathlib.Core.List.{List, [], ◌∷◌, ◌++◌, map}
use native.Mathlib.Omega.{arith}
use Rattle.operation.proofs.Laws.Vectors.{sixteen-zeros}
use Rattle.opcode.specs.Kind.{Kind, i32, i64, v128}
use Rattle.machine.specs.Value.{Value, kind_of, InRange, AllInRange}
use Rattle.rules.specs.Header.{Header, Declares}
use Rattle.rules.specs.Typing.{opened}
use Rattle.rules.specs.Strip.{front, Valid}
use Rattle.rules.proofs.Onward.{declared}
use Rattle.standard.specs.Standard.{zero_of, begin}
use Rattle.standard.specs.Safety.{Given, outermost, Fits, Sound}

pub zero-kinds : (ks : List Kind) → map kind_of (map zero_of ks) ≡ ks
zero-kinds [] = refl
zero-kinds (i32 ∷ ks) = ap (λ l. i32 ∷ l) (zero-kinds ks)
zero-kinds (i64 ∷ ks) = ap (λ l. i64 ∷ l) (zero-kinds ks)
zero-kinds (v128 ∷ ks) = ap (λ l. v128 ∷ l) (zero-kinds ks)

zero-range : (k : Kind) → InRange (zero_of k)
zero-range i32 = omega arith
zero-range i64 = omega arith
zero-range v128 = sixteen-zeros

all_kinds : (vs : List Value) (ks : List Kind) → map kind_of (vs ++ map zero_of ks) ≡ map kind_of vs ++ ks
all_kinds [] ks = zero-kinds ks
all_kinds (v ∷ vs) ks = ap (λ l. kind_of v ∷ l) (all_kinds vs ks)

pub all-range : (vs : List Value) (ks : List Kind) → AllInRange vs → AllInRange (vs ++ map zero_of ks)
all-range [] [] r = tt
all-range [] (k ∷ ks) r = (zero-range k, all-range [] ks tt)
all-range (v ∷ vs) ks r = (r.0, all-range vs ks r.1)

pub begin-fits : (s : List ℕ) (h : Header) (vs : List Value) (mem : List ℕ) → Given h vs mem → Fits s h (opened false h.results) [] (begin h vs mem)
begin-fits s h vs mem g =
    record {
      stacked = refl;
      nested = outermost refl refl;
      held = all_kinds vs h.further ∙ ap (λ (ks : List Kind). ks ++ h.further) g.kinds;
      stack_range = tt;
      local_range = all-range vs h.further g.range;
      memory_range = g.bytes;
    }

pub declared-sound : {s : List ℕ} {h : Header} → Declares s h → (vs : List Value) (mem : List ℕ) → Given h vs mem → Sound s h (begin h vs mem)
declared-sound {s} {h} d vs mem g =
    record { frame = opened false h.results; outer = []; reached = front d; live = (refl, tt); fits = begin-fits s h vs mem g }

pub begin-sound : {s : List ℕ} (v : Valid s) (vs : List Value) (mem : List ℕ) → Given v.header vs mem → Sound s v.header (begin v.header vs mem)
begin-sound v vs mem g = declared-sound (declared v.reached) vs mem g
