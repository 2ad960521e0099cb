-- One store.
use native.Mathlib.Omega.{arith}
use Rattle.text.specs.Append.{fits, no_room}
use Rattle.text.proofs.push.Goals as goal

pub returns-then-at-out : goal.returns-then-at-out
returns-then-at-out c = fits (omega arith)

pub returns : goal.returns
returns c = no_room (omega arith)
