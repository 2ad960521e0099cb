-- Extended products are exact and never leave their lane; only four inputs of -32768 wrap in a dot product (01, "Lane rules").
use mathlib.Core.Path.{◌≡◌, refl, sym, ap, ◌∙◌}
use mathlib.Core.Logic.{◌↔◌}
use mathlib.Core.List.{List}
use Prim.Native.Nat.{ℕ, ◌+◌, ◌*◌, ◌<◌}
use native.Mathlib.Nat.{mod-eq_of_lt}
use mir.Syntax.{Width}
use mir.Val.{bits}
use Rattle.scalar.specs.Scalar.{Sign, S, value, iextmul, idot}
use Rattle.scalar.proofs.Laws.Integers.{wrap-lt}
use Rattle.scalar.proofs.Laws.Exact.{AllLeast, extmul-exact, dot-exact}
use Rattle.operation.specs.Shape.{i16x8, i32x4, lanes, half}
use Rattle.operation.specs.Vector.{lane}
use Rattle.operation.specs.Op.{Half, from, DotS, Extmul, binary}
use Rattle.operation.specs.Exact.{lane_value, exact_product, exact_sum, FourLeast}
use Rattle.operation.proofs.Laws.Lane.{lane-lt}
use Rattle.operation.proofs.Laws.Vectors.{lane-vec}

-- both endings, both halves, and every shape whose lanes have twice the bits of another's: i16x8, i32x4, i64x2
pub products-exact : (h : Half) (s : Sign) (w : Width) (a b : List ℕ) (n : ℕ) → bits w ≡ bits (half w) + bits (half w) → n < lanes w
    → lane_value s w (binary (Extmul h s w) a b) n ≡ exact_product h s w a b n
unfolding iextmul
products-exact h s w a b n e l =
    ap (value s w) (lane-vec w _ n l ∙ mod-eq_of_lt (wrap-lt w (exact_product h s w a b n)))
    ∙ extmul-exact s (half w) w _ _ e (lane-lt (half w) a (from h w + n)) (lane-lt (half w) b (from h w + n))

-- a dot lane is the exact sum exactly where not all four are -32768
pub only-four-wrap : (a b : List ℕ) (n : ℕ) → n < lanes i32x4
    → (lane_value S i32x4 (binary DotS a b) n ≡ exact_sum a b n) ↔ (FourLeast a b n → ⊥)
unfolding idot
only-four-wrap a b n l = ((λ e four. exact.0 (wrapped ∙ e) (all-least four)), (λ other. sym wrapped ∙ exact.1 (λ all. other (four-least all))))
  where
    x : ℕ
    x = lane i16x8 a (2 * n)

    y : ℕ
    y = lane i16x8 b (2 * n)

    x' : ℕ
    x' = lane i16x8 a (2 * n + 1)

    y' : ℕ
    y' = lane i16x8 b (2 * n + 1)

    exact : (value S i32x4 (idot i16x8 i32x4 x y x' y') ≡ exact_sum a b n) ↔ (AllLeast i16x8 x y x' y' → ⊥)
    exact =
        dot-exact i16x8 i32x4 x y x' y' refl
        (lane-lt i16x8 a (2 * n)) (lane-lt i16x8 b (2 * n)) (lane-lt i16x8 a (2 * n + 1)) (lane-lt i16x8 b (2 * n + 1))

    wrapped : value S i32x4 (idot i16x8 i32x4 x y x' y') ≡ lane_value S i32x4 (binary DotS a b) n
    wrapped = ap (value S i32x4) (sym (lane-vec i32x4 _ n l ∙ mod-eq_of_lt (wrap-lt i32x4 (exact_sum a b n))))

    all-least : FourLeast a b n → AllLeast i16x8 x y x' y'
    all-least f = (f.first_a, f.first_b, f.second_a, f.second_b)

    four-least : AllLeast i16x8 x y x' y' → FourLeast a b n
    four-least (p, q, p', q') = record { first_a = p; first_b = q; second_a = p'; second_b = q' }
