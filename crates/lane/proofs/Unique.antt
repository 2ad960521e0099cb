-- Each promise of this crate leaves one answer: a promise is an equation, `r.bytes ≡ v` of a V128, `lane_answer r ≡ x` or `vector_answer r ≡ x`
-- of an answer with an index, or `r ≡ x` of a test, whose right side does not name r. One theorem for each type of answer; no function of the
-- crate changes a buffer of its caller.
use mathlib.Core.Path.{◌≡◌, refl, sym, ap, ◌∙◌}
use mathlib.Core.List.{List}
use Prim.Native.Nat.{ℕ}
use Rattle.std.specs.Prelude.{Result, Ok, Err}
use Rattle.lane.specs.Answer.{LaneAnswer, VectorAnswer, lane_answer, vector_answer}
use Rattle.lane.specs.declared.V128.{V128}
use Rattle.lane.specs.declared.answer.NoSuchLane.{NoSuchLane}

-- V128: one vector has these bytes
pub one-vector : (r r' : V128) (v : List ℕ) → r.bytes ≡ v → r'.bytes ≡ v → r ≡ r'
one-vector r r' v e f = ap (λ (b : List ℕ). record { bytes = b }) (e ∙ sym f)

-- u32: the tests
pub one_number : (r r' x : ℕ) → r ≡ x → r' ≡ x → r ≡ r'
one_number r r' x e f = e ∙ sym f

same-lane_answer : (r r' : Result ℕ NoSuchLane) → lane_answer r ≡ lane_answer r' → r ≡ r'
same-lane_answer (Ok x) (Ok y) e = ap Ok (ap (λ (q : LaneAnswer). q.value) e)
same-lane_answer (Ok x) (Err y) e = let f = ap (λ (q : LaneAnswer). q.code) e in cc
same-lane_answer (Err x) (Ok y) e = let f = ap (λ (q : LaneAnswer). q.code) e in cc
same-lane_answer (Err x) (Err y) e = refl

same-vector_answer : (r r' : Result V128 NoSuchLane) → vector_answer r ≡ vector_answer r' → r ≡ r'
same-vector_answer (Ok x) (Ok y) e = ap Ok (ap (λ (q : VectorAnswer). q.value) e)
same-vector_answer (Ok x) (Err y) e = let f = ap (λ (q : VectorAnswer). q.code) e in cc
same-vector_answer (Err x) (Ok y) e = let f = ap (λ (q : VectorAnswer). q.code) e in cc
same-vector_answer (Err x) (Err y) e = refl

-- a lane, or the refusal
pub one-lane-answer : (r r' : Result ℕ NoSuchLane) (x : LaneAnswer) → lane_answer r ≡ x → lane_answer r' ≡ x → r ≡ r'
one-lane-answer r r' x e f = same-lane_answer r r' (e ∙ sym f)

pub one-vector-answer : (r r' : Result V128 NoSuchLane) (x : VectorAnswer) → vector_answer r ≡ x → vector_answer r' ≡ x → r ≡ r'
one-vector-answer r r' x e f = same-vector_answer r r' (e ∙ sym f)
