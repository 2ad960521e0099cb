-- Numbers in slots: their bytes, and the lanes that read them again.
use Prim.Native.Nat.{ℕ, ◌-◌, ◌%◌, ◌^◌, ◌<◌}
use mathlib.Core.Path.{◌≡◌, refl, ap, ap₂, sym, ◌∙◌}
use mathlib.Core.Bool.{Bool, true, false, cond}
use mathlib.Core.List.{List, ◌++◌, append-nil}
use native.Mathlib.Nat.{div-eq_of_lt, mod-eq_of_lt}
use native.Mathlib.Omega.{arith}
use lib.Dec.{lit≤}
use lib.ListN.{replicate, length}
use Rattle.std.specs.Int.{from_bool}
use mir.Syntax.{Width, w8, w16, w32, w64, w128}
use Rattle.scalar.specs.Scalar.{S}
use Rattle.operation.specs.Vector.{le, lane, build}
use Rattle.operation.specs.Op.{replaced, splat}
use Rattle.operation.proofs.Laws.Number.{le_split, le-mod}
use Rattle.operation.proofs.Laws.Lane.{lane-lt, lane-zeros, same-lane}
use Rattle.lane.specs.Answer.{lane_answer, vector_answer, extract_lane, replace_lane}
use Rattle.lane.specs.declared.V128.{V128}
use Rattle.lane.specs.declared.answer.NoSuchLane.{NoSuchLane}
use Rattle.machine.specs.Memory.{padded}
use Rattle.machine.specs.Inner.Flat.{low32, low64, lowest}
use Rattle.std.specs.Prelude.{Result}
use Rattle.std.specs.Result.{result_unwrap_or}
use Rattle.machine.proofs.Laws.LowHalf.{splat-low, replaced-low}
use Rattle.machine.proofs.Laws.Taken.{scalar-taken, vector-taken}

-- sixteen bytes need no zeros
pub padded-whole : (bs : List ℕ) → length bs ≡ 16 → padded bs ≡ bs
padded-whole bs e = ap (λ (n : ℕ). bs ++ replicate (16 - n) 0) e ∙ append-nil bs

pub read_word : (v : List ℕ) (r : Result ℕ NoSuchLane) {n : ℕ} → lane_answer r ≡ extract_lane S w32 v 0 → n ≡ result_unwrap_or r 0 → n % 2 ^ 32 ≡ low32 v
read_word v r e u = ap (λ (n : ℕ). n % 2 ^ 32) (scalar-taken w32 0 (lit≤ tt) r e u ∙ sym (same-lane w32 v 0)) ∙ mod-eq_of_lt (lane-lt w32 v 0)

pub read-long : (v : List ℕ) (r : Result ℕ NoSuchLane) {n : ℕ} → lane_answer r ≡ extract_lane S w64 v 0 → n ≡ result_unwrap_or r 0 → n ≡ low64 v
read-long v r e u = scalar-taken w64 0 (lit≤ tt) r e u ∙ sym (same-lane w64 v 0)

pub number-alone : (x : ℕ) → x < 2 ^ 64 → replaced w64 (replicate 16 0) 0 x ≡ le 16 x
unfolding build
number-alone x h =
    ap₂ (λ (a b : List ℕ). a ++ b) (le-mod 8 x) (ap (le 8) (lane-zeros w64 1 ∙ sym (div-eq_of_lt h))) ∙ sym (le_split 8 8 x)

pub write-number : (x : ℕ) (r : Result V128 NoSuchLane) (d : V128) {v : V128} → x < 2 ^ 64 → vector_answer r ≡ replace_lane w64 (replicate 16 0) 0 x → v ≡ result_unwrap_or r d
    → v.bytes ≡ le 16 x
write-number x r d h e u = vector-taken w64 0 (lit≤ tt) r d e u ∙ number-alone x h

-- the low half of the 64 bits
pub low_word : (v : List ℕ) → low64 v % 2 ^ 32 ≡ low32 v
unfolding lane
low_word v = omega arith

-- a lane takes the same from all 64 bits as from its scalar
pub splat-lowest : (w : Width) (v : List ℕ) → splat w (low64 v) ≡ splat w (lowest w v)
splat-lowest w8 v = sym (splat-low w8 (omega arith) (low64 v)) ∙ ap (splat w8) (low_word v)
splat-lowest w16 v = sym (splat-low w16 (omega arith) (low64 v)) ∙ ap (splat w16) (low_word v)
splat-lowest w32 v = sym (splat-low w32 (omega arith) (low64 v)) ∙ ap (splat w32) (low_word v)
splat-lowest w64 v = refl
splat-lowest w128 v = refl

pub replaced-lowest : (w : Width) (a : List ℕ) (i : ℕ) (v : List ℕ) → replaced w a i (low64 v) ≡ replaced w a i (lowest w v)
replaced-lowest w8 a i v = sym (replaced-low w8 (omega arith) (low64 v) a i) ∙ ap (replaced w8 a i) (low_word v)
replaced-lowest w16 a i v = sym (replaced-low w16 (omega arith) (low64 v) a i) ∙ ap (replaced w16 a i) (low_word v)
replaced-lowest w32 a i v = sym (replaced-low w32 (omega arith) (low64 v) a i) ∙ ap (replaced w32 a i) (low_word v)
replaced-lowest w64 a i v = refl
replaced-lowest w128 a i v = refl

-- a test as a number
pub bit : (b : Bool) → from_bool b ≡ cond b 1 0
bit true = refl
bit false = refl
