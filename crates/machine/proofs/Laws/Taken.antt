-- The value that is taken of an answer whose index is in range.
use mathlib.Core.Path.{◌≡◌, ap, ◌∙◌}
use mathlib.Core.List.{List}
use Prim.Native.Nat.{ℕ, ◌<◌}
use lib.Dec.{ltb}
use mir.Syntax.{Width}
use Rattle.std.specs.Prelude.{Result}
use Rattle.std.specs.Result.{result_unwrap_or}
use Rattle.operation.specs.Shape.{lanes}
use Rattle.lane.specs.Answer.{scalar_if, vector_if, lane_answer, vector_answer}
use Rattle.lane.specs.declared.V128.{V128}
use Rattle.lane.specs.declared.answer.NoSuchLane.{NoSuchLane}
use Rattle.lane.proofs.Laws.Values.{scalar-value, vector-value}

module _ (w : Width) (i : ℕ) (in-range : i < lanes w) where
  pub scalar-taken : (r : Result ℕ NoSuchLane) {x y : ℕ} → lane_answer r ≡ scalar_if (ltb i (lanes w)) x → y ≡ result_unwrap_or r 0 → y ≡ x
  scalar-taken r {x} e u = u ∙ ap (λ (q : Result ℕ NoSuchLane). result_unwrap_or q 0) (scalar-value w i in-range {r = r} x e)

  pub vector-taken : (r : Result V128 NoSuchLane) (d : V128) {x : List ℕ} {y : V128} → vector_answer r ≡ vector_if (ltb i (lanes w)) x → y ≡ result_unwrap_or r d → y.bytes ≡ x
  vector-taken r d {x} e u = ap (λ (v : V128). v.bytes) (u ∙ ap (λ (q : Result V128 NoSuchLane). result_unwrap_or q d) (vector-value w i in-range {r = r} x e))
