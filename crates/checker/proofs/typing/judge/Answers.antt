-- An undeclared local, or by what the instruction takes and leaves.
use Rattle.checker.proofs.Effects.{same-dead, gives_local, gives-applies}
use Rattle.checker.proofs.typing.judge.Goals as goal

pub returns-then-effect-eq0-clause-gives : goal.returns-then-effect-eq0-clause-gives
returns-then-effect-eq0-clause-gives c =
    λ v ls outer f row o h t. gives_local (c.effect_of-effect.ensures v ls outer f row o h (same-dead t)) c.if-effect-eq0.true

pub returns-clause-gives : goal.returns-clause-gives
returns-clause-gives c =
    λ v ls outer f row o h t.
    gives-applies (c.effect_of-effect.ensures v ls outer f row o h (same-dead t)) c.if-effect-eq0.false
    (λ ins outs small is. c.apply.ensures.applies outer ins outs f t small is)
