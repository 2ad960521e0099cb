-- Operands missing, or what is left over what is below them.
use Rattle.checker.proofs.Applied.{applies-lacks, exchanges}
use Rattle.checker.proofs.stack.exchange.Goals as goal

pub returns-in_default-clause-applies : goal.returns-in_default-clause-applies
returns-in_default-clause-applies c = λ outer ins outs f t a b. applies-lacks (c.in_default.ensures.under outer ins f t a)

pub returns-clause-applies : goal.returns-clause-applies
returns-clause-applies c = λ outer ins outs f t a b. exchanges t (c.in-Some.ensures.under outer ins f t a) (λ below h. c.leave.ensures.leaves below outs h b)
