-- Both top bits.
use Prim.Native.Nat.{ℕ, ◌+◌, ◌*◌, ◌/◌, ◌%◌, ◌^◌, ◌<◌}
use mathlib.Core.Path.{◌≡◌, sym, ◌∙◌, ap, ap₂}
use native.Mathlib.Nat.{div-one, mod-eq_of_lt}
use native.Mathlib.Omega.{arith}
use lib.Bits.{bit_and, and_mask}
use lib.Pow.{field, shr-shr, shr_lt}
use mir.Syntax.{w32}
use Rattle.operation.proofs.Laws.Number.{field_of, field_lt}
use Rattle.operation.proofs.Laws.Scan.{sign_bit}
use Rattle.lane.specs.Inner.Words.{signs}
use Rattle.lane.proofs.lanes.signs.I32x4Signs.signs.Goals as goal

low : (x : ℕ) → bit_and (x / 2 ^ 31) 1 ≡ field_of 32 x 0 / 2 ^ 31
low x = and_mask (x / 2 ^ 31) 1 ∙ sym (field x 1 31) ∙ ap (λ (y : ℕ). y % 2 ^ 32 / 2 ^ 31) (sym (div-one x))

high : (x : ℕ) → x < 2 ^ 64 → x / 2 ^ 63 ≡ field_of 32 x 1 / 2 ^ 31
high x h = sym (shr-shr x 32 31) ∙ ap (λ (y : ℕ). y / 2 ^ 31) (sym (mod-eq_of_lt (shr_lt 32 32 h)))

sum : (s s' : ℕ) → s + 2 * s' ≡ 0 + s * 2 ^ 0 + s' * 2 ^ 1
sum s s' = omega arith

pub overflow_add-result : goal.overflow_add-result
overflow_add-result c = omega (arith, and_mask (c.args.word / 2 ^ 31) 1)

pub overflow_cast-result : goal.overflow_cast-result
overflow_cast-result c = omega (arith, and_mask (c.args.word / 2 ^ 31) 1)

pub returns : goal.returns
unfolding signs
returns c =
    let x = c.args.word in
    ap₂ (λ (s s' : ℕ). s + 2 * s') (low x ∙ sign_bit w32 (field_of 32 x 0) (field_lt 32 x 0))
    (high x c.ranges.word.fits ∙ sign_bit w32 (field_of 32 x 1) (field_lt 32 x 1))
    ∙ sum _ _
