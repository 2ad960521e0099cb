-- The version of each first byte, arm by arm.
use native.Mathlib.Omega.{arith}
use mir.Syntax.{Body}
use Rattle.opcode.specs.Number.{since_of}
use Rattle.opcode.proofs.Arms.{in-arm, past-arms}
use Rattle.opcode.proofs.since.Code.{function}
use Rattle.opcode.proofs.since.Goals as goal

abbrev body : Body
body = function.body

pub returns-in-2 : goal.returns-in-2
unfolding since_of
returns-in-2 c = in-arm since_of body 0 tt c.in-2.is

pub returns-in-3 : goal.returns-in-3
unfolding since_of
returns-in-3 c = in-arm since_of body 1 tt c.in-3.is

pub returns-in_default : goal.returns-in_default
unfolding since_of
returns-in_default c = past-arms since_of body 256 tt (λ h. absurd (let no : ⊥ = omega (arith, c.ranges.first) in no)) c.in_default.in_default-own.rest
