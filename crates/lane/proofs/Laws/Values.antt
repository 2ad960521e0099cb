-- For callers: the value of an answer whose index is in range.
use mathlib.Core.Path.{◌≡◌, ap, ◌∙◌}
use mathlib.Core.Bool.{Bool, true}
use mathlib.Core.List.{List}
use Prim.Native.Nat.{ℕ, ◌<◌}
use lib.Dec.{ltb}
use borrow.Author.Tests.{lt-ltb}
use mir.Syntax.{Width}
use Rattle.std.specs.Prelude.{Result, Ok, Err}
use Rattle.operation.specs.Shape.{lanes, i8x16}
use Rattle.operation.specs.Vector.{lane}
use Rattle.operation.specs.Op.{shuffled}
use Rattle.lane.specs.Answer.{LaneAnswer, VectorAnswer, scalar_if, vector_if, lane_answer, vector_answer, shuffle}
use Rattle.lane.specs.declared.V128.{V128}
use Rattle.lane.specs.declared.answer.NoSuchLane.{NoSuchLane}
use Rattle.operation.proofs.Laws.Scan.{all_of}

given-scalar : (r : Result ℕ NoSuchLane) (x : ℕ) → lane_answer r ≡ scalar_if true x → r ≡ Ok x
given-scalar (Ok y) x e = ap Ok (ap (λ (q : LaneAnswer). q.value) e)
given-scalar (Err y) x e = let f = ap (λ (q : LaneAnswer). q.code) e in cc

given-vector : (r : Result V128 NoSuchLane) (v : List ℕ) → vector_answer r ≡ vector_if true v → r ≡ Ok (record { bytes = v })
given-vector (Ok y) v e = ap Ok (ap (λ (q : VectorAnswer). q.value) e)
given-vector (Err y) v e = let f = ap (λ (q : VectorAnswer). q.code) e in cc

module _ (w : Width) (i : ℕ) (in-range : i < lanes w) where
  pub scalar-value : {r : Result ℕ NoSuchLane} (x : ℕ) → lane_answer r ≡ scalar_if (ltb i (lanes w)) x → r ≡ Ok x
  scalar-value {r} x e = given-scalar r x (e ∙ ap (λ (t : Bool). scalar_if t x) (lt-ltb i (lanes w) in-range))

  pub vector-value : {r : Result V128 NoSuchLane} (v : List ℕ) → vector_answer r ≡ vector_if (ltb i (lanes w)) v → r ≡ Ok (record { bytes = v })
  vector-value {r} v e = given-vector r v (e ∙ ap (λ (t : Bool). vector_if t v) (lt-ltb i (lanes w) in-range))

-- all sixteen are
pub shuffle-value : (a b s : List ℕ) {r : Result V128 NoSuchLane} → ((k : ℕ) → k < 16 → lane i8x16 s k < 32) → vector_answer r ≡ shuffle a b s
    → r ≡ Ok (record { bytes = shuffled a b s })
shuffle-value a b s {r} h e =
    given-vector r (shuffled a b s)
    (e ∙ ap (λ (t : Bool). vector_if t (shuffled a b s)) (all_of 16 (λ n. ltb (lane i8x16 s n) 32) (λ k l. lt-ltb (lane i8x16 s k) 32 (h k l))))
