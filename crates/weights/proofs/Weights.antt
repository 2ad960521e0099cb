-- Every weight of the list holds: the operations and the readings compute to what 01 says.
use Prim.Native.Nat.{ℕ, zero, suc}
use mathlib.Core.Path.{◌≡◌, refl, sym, ◌∙◌}
use mathlib.Core.Bool.{Bool, true, false, ◌&&◌}
use mathlib.Core.List.{List, [], ◌∷◌}
use mathlib.Core.Logic.{◌↔◌}
use lib.Dec.{T, ltb, ltb→lt, lit<}
use Rattle.std.specs.Prelude.{Result}
use Rattle.scalar.specs.Scalar.{clamp, sat, iaddsat, inarrow, iq15mulrsat, idot}
use Rattle.operation.specs.Vector.{lane, build}
use Rattle.lane.specs.declared.V128.{V128}
use Rattle.leb128.specs.Number.{last_of, before, int_of, number_at}
use Rattle.leb128.specs.Promise.{ReadsNumber}
use Rattle.leb128.specs.Bytes.{bytes}
use Rattle.leb128.specs.declared.reading.Number.{Number}
use Rattle.leb128.specs.declared.reading.NoNumber.{NoNumber}
use Rattle.leb128.proofs.Exact.{reads-number}
use Rattle.weights.specs.Weights.{All, none, ◌and◌, Holds, weights}

abbrev small : List ℕ → Bool
small [] = true
small (b ∷ bs) = ltb b 256 && small bs

both : (a b : Bool) → T (a && b) → T a × T b
both true b h = (tt, h)
both false b h = absurd h

are-bytes : (s : List ℕ) → T (small s) → bytes s
are-bytes [] h i = lit< tt
are-bytes (b ∷ bs) h zero = ltb→lt b 256 (both (ltb b 256) (small bs) h).0
are-bytes (b ∷ bs) h (suc i) = are-bytes bs (both (ltb b 256) (small bs) h).1 i

-- what the reader computes from bytes meets its contract, and nothing else does
read : (sign : Bool) (N : ℕ) (s : List ℕ) → T (small s) → (said : Result Number NoNumber) → number_at sign N s 0 ≡ said → (r : Result Number NoNumber) → ReadsNumber sign N s 0 r ↔ (r ≡ said)
read sign N s h said e r = ((λ m. m.answer ∙ e), (λ f. reads-number sign N s 0 (are-bytes s h) r (f ∙ sym e)))

-- where the operation computes to what is said, the contract is the equation
same : (P : V128 → Type 0) (r : V128) → P r ↔ P r
same P r = ((λ m. m), (λ m. m))

pub all_hold : All Holds weights
unfolding lane build clamp sat iaddsat inarrow iq15mulrsat idot number_at int_of last_of before
all_hold =
    -- add, add_sat_u, add_sat_s
    same _ and same _ and same _
    -- narrow
    and same _ and same _ and same _
    -- q15mulr, dot
    and same _ and same _ and same _ and same _
    -- u32, s32
    and read _ _ _ tt _ refl and read _ _ _ tt _ refl and read _ _ _ tt _ refl
    and read _ _ _ tt _ refl and read _ _ _ tt _ refl and none
