-- The arrays with which a run starts hold the standard's first state.
use Prim.Native.Nat.{ℕ, zero, suc, ◌+◌, ◌*◌, ◌-◌, ◌≤◌, ◌<◌}
use mathlib.Core.Path.{◌≡◌, refl, ap, sym, ◌∙◌}
use mathlib.Core.Bool.{Bool, true, false}
use mathlib.Core.List.{List, [], ◌∷◌, ◌++◌, map, append_assoc}
use mathlib.Core.Logic.{inr}
use native.Mathlib.Omega.{arith}
use lib.Dec.{ltb}
use borrow.Author.Tests.{ltb-true, ltb-false}
use lib.ListN.{length, get_or, take, drop, replicate, length-append, length-map, length-replicate, length-drop, get_or-replicate, get_or-append}
use lib.Seq.{length-take-le, get_or-take, get_or-drop, ext_get_or, drop_at, drop-drop, take_at, get_or-append-add}
use Rattle.limits.specs.Limits.{slot, local_count, stack_bytes, local_bytes}
use Rattle.operation.proofs.Laws.Number.{Bytes}
use Rattle.opcode.specs.Kind.{Kind, i32, i64, v128}
use Rattle.machine.specs.Value.{Value, I32, kind_of, AllInRange, bytes_of, all_bytes}
use Rattle.machine.specs.Memory.{part, stored}
use Rattle.machine.specs.Inner.Flat.{slot_at}
use Rattle.machine.proofs.Laws.Stored.{length-stored, part-other}
use Rattle.machine.specs.Inner.Rep.{Rep}
use Rattle.machine.proofs.Laws.Rep.{sixteen-bytes}
use Rattle.rules.specs.Header.{Header}
use Rattle.standard.specs.Standard.{begin, zero_of}
use Rattle.standard.specs.Safety.{Sound}
use Rattle.image.specs.Slots.{InSlots}
use Rattle.image.proofs.Held.{all-long}

-- ---- slots

zero-slot : (n k : ℕ) → slot * k + slot ≤ n → slot_at (replicate n 0) k ≡ replicate slot 0
zero-slot n k h =
    ext_get_or 0 (slot_at (replicate n 0) k) (replicate slot 0) (long ∙ sym (length-replicate {A = ℕ} slot 0))
    (λ i l. get_or-take slot (drop (slot * k) (replicate n 0)) i 0 (omega (arith, long)) ∙ get_or-drop (slot * k) (replicate n 0) i 0
    ∙ get_or-replicate n (slot * k + i) 0 0 (omega (arith, long)) ∙ sym (get_or-replicate slot i 0 0 (omega (arith, long))))
  where
    long : length (slot_at (replicate n 0) k) ≡ slot
    long = length-take-le slot (drop (slot * k) (replicate n 0)) (omega (arith, length-drop (slot * k) (replicate {A = ℕ} n 0), length-replicate {A = ℕ} n 0))

pub value-slot : (vs : List Value) (rest : List ℕ) → AllInRange vs → (k : ℕ) → k < length vs → slot_at (all_bytes vs ++ rest) k ≡ bytes_of (get_or vs k (I32 0))
unfolding all_bytes
value-slot [] rest r k l = absurd (let z : ⊥ = omega arith in z)
value-slot (v ∷ vs) rest r zero l =
    ap (take slot) (append_assoc (bytes_of v) (all_bytes vs) rest) ∙ take_at (bytes_of v) (all_bytes vs ++ rest) slot (sixteen-bytes v r.0).long
value-slot (v ∷ vs) rest r (suc k) l =
    let more : slot * suc k ≡ slot + slot * k = omega arith in
    ap (λ (bs : List ℕ). part slot (slot * suc k) bs) (append_assoc (bytes_of v) (all_bytes vs) rest)
    ∙ ap (λ (n : ℕ). take slot (drop n (bytes_of v ++ (all_bytes vs ++ rest)))) more
    ∙ ap (take slot) (sym (drop-drop (slot * k) slot (bytes_of v ++ (all_bytes vs ++ rest)))
    ∙ ap (drop (slot * k)) (drop_at (bytes_of v) (all_bytes vs ++ rest) slot (sixteen-bytes v r.0).long))
    ∙ value-slot vs rest r.1 k (omega arith)

zero-bytes : (k : Kind) → bytes_of (zero_of k) ≡ replicate slot 0
zero-bytes i32 = refl
zero-bytes i64 = refl
zero-bytes v128 = refl

further-zero : (ks : List Kind) (k : ℕ) → bytes_of (get_or (map zero_of ks) k (I32 0)) ≡ replicate slot 0
further-zero [] k = refl
further-zero (x ∷ ks) zero = zero-bytes x
further-zero (x ∷ ks) (suc k) = further-zero ks k

-- ---- the state

abbrev zeros : List ℕ
zeros = replicate local_bytes 0

zeros-long : length zeros ≡ local_bytes
zeros-long = length-replicate {A = ℕ} local_bytes 0

module _ (h : Header) (args : List ℕ) (vs : List Value) (g : InSlots h.parameters args vs)
    (few : length h.parameters + length h.further ≤ local_count) where
  pub counted : length vs ≡ length h.parameters
  counted = sym (length-map vs kind_of) ∙ ap length g.kinds

  all : length (vs ++ map zero_of h.further) ≡ length h.parameters + length h.further
  all = length-append vs (map zero_of h.further) ∙ omega (arith, counted, length-map h.further zero_of)

  pub args-long : length args ≡ slot * length vs
  args-long = ap length g.bytes ∙ all-long vs g.range

  front : stored zeros 0 args ≡ all_bytes vs ++ drop (0 + length args) zeros
  unfolding stored
  front = ap (λ (bs : List ℕ). bs ++ drop (0 + length args) zeros) g.bytes

  held : (k : ℕ) → k < length (vs ++ map zero_of h.further) → slot_at (stored zeros 0 args) k ≡ bytes_of (get_or (vs ++ map zero_of h.further) k (I32 0))
  held k l = at (ltb k (length vs)) refl
    where
      at : (t : Bool) → ltb k (length vs) ≡ t → slot_at (stored zeros 0 args) k ≡ bytes_of (get_or (vs ++ map zero_of h.further) k (I32 0))
      at true q =
          ap (λ (bs : List ℕ). slot_at bs k) front ∙ value-slot vs _ g.range k (ltb-true k (length vs) q)
          ∙ ap bytes_of (sym (get_or-append vs (map zero_of h.further) (I32 0) k (ltb-true k (length vs) q)))
      at false q =
          let past = ltb-false k (length vs) q in let here : length vs + (k - length vs) ≡ k = omega arith in
          part-other zeros 0 args (omega (arith, args-long, zeros-long, counted)) slot (slot * k) (inr (omega (arith, args-long)))
          ∙ zero-slot local_bytes k (omega (arith, all)) ∙ sym (further-zero h.further (k - length vs))
          ∙ ap bytes_of
          (sym (get_or-append-add vs (map zero_of h.further) (k - length vs) (I32 0)) ∙ ap (λ (n : ℕ). get_or (vs ++ map zero_of h.further) n (I32 0)) here)

  pub start-holds : {s : List ℕ} (mem : List ℕ) → Bytes mem → Sound s h (begin h vs mem)
      → Rep (begin h vs mem).state (replicate stack_bytes 0) 0 (stored zeros 0 args) mem
  start-holds mem b sound =
      record {
        stack_long = length-replicate {A = ℕ} stack_bytes 0;
        locals_long = length-stored zeros 0 args (omega (arith, args-long, zeros-long, counted)) ∙ zeros-long;
        depth = refl;
        deep = omega arith;
        slots = tt;
        stack_range = tt;
        few = omega (arith, all);
        held = held;
        local_range = sound.fits.local_range;
        memory = refl;
        memory_bytes = b;
      }
