-- The first byte alone, or FD and its number.
use mathlib.Core.Path.{sym, ◌∙◌}
use native.Mathlib.Omega.{arith}
use Rattle.leb128.proofs.Bounds.{found-32}
use Rattle.closing.proofs.Passes.{named-byte, named-number, named-none}
use Rattle.closing.proofs.passing.opcode_at.Goals as goal

pub returns-then-first : goal.returns-then-first
returns-then-first c =
    named-byte _ (λ j. (c.type_inv.s j).fits) _ c.requires c.if-first.true
    c.id_of.ensures

pub overflow_cast-number : goal.overflow_cast-number
overflow_cast-number c =
    omega (
      arith,
      found-32 _ _ _ (λ j. (c.type_inv.s j).fits) _ _
          (sym c.read.ensures.answer ∙ c.in-Ok.is),
    )

pub overflow_add-result-in-Ok-2 : goal.overflow_add-result-in-Ok-2
overflow_add-result-in-Ok-2 c =
    omega (
      arith,
      found-32 _ _ _ (λ j. (c.type_inv.s j).fits) _ _
          (sym c.read.ensures.answer ∙ c.in-Ok.is),
    )

pub returns-in-Ok : goal.returns-in-Ok
returns-in-Ok c =
    named-number _ (λ j. (c.type_inv.s j).fits) _ c.requires c.if-first.false
    (sym c.read.ensures.answer ∙ c.in-Ok.is) c.id_of-in-Ok.ensures

pub returns-in-Err : goal.returns-in-Err
returns-in-Err c = named-none _ (λ j. (c.type_inv.s j).fits) _ c.requires c.if-first.false _ (sym c.read.ensures.answer ∙ c.in-Err.is)
