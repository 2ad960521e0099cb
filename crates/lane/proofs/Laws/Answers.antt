-- What an index within the lanes is answered, and one past them.
use mathlib.Core.Path.{◌≡◌, sym, ap, ◌∙◌}
use mathlib.Core.Bool.{Bool, true, false}
use mathlib.Core.List.{List, []}
use Prim.Native.Nat.{ℕ, ◌≤◌, ◌<◌}
use borrow.Author.Tests.{lt-ltb, le-ltb}
use lib.Dec.{T, leb, ltb}
use mir.Syntax.{Width, w8, w16, w32, w64, w128}
use mir.Val.{bits}
use Rattle.operation.specs.Op.{unpack}
use Rattle.lane.specs.Answer.{LaneAnswer, VectorAnswer, scalar_if, vector_if}

pub scalar-in : (n i : ℕ) {r : LaneAnswer} (x y : ℕ) → i < n → r ≡ scalar_if true x → x ≡ y → r ≡ scalar_if (ltb i n) y
scalar-in n i x y h e f = e ∙ ap (scalar_if true) f ∙ sym (ap (λ (t : Bool). scalar_if t y) (lt-ltb i n h))

pub scalar-out : (n i : ℕ) {r : LaneAnswer} (y : ℕ) → n ≤ i → r ≡ scalar_if false 0 → r ≡ scalar_if (ltb i n) y
scalar-out n i y h e = e ∙ sym (ap (λ (t : Bool). scalar_if t y) (le-ltb i n h))

pub vector-in : (t : Bool) {r : VectorAnswer} (x y : List ℕ) → t ≡ true → r ≡ vector_if true x → x ≡ y → r ≡ vector_if t y
vector-in t x y h e f = e ∙ ap (vector_if true) f ∙ sym (ap (λ (b : Bool). vector_if b y) h)

pub vector-out : (t : Bool) {r : VectorAnswer} (y : List ℕ) → t ≡ false → r ≡ vector_if false [] → r ≡ vector_if t y
vector-out t y h e = e ∙ sym (ap (λ (b : Bool). vector_if b y) h)

-- a lane fits the scalar that it is taken out as
pub fits-scalar : (w : Width) → T (leb (bits w) (bits (unpack w)))
fits-scalar w8 = tt
fits-scalar w16 = tt
fits-scalar w32 = tt
fits-scalar w64 = tt
fits-scalar w128 = tt
