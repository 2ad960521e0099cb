use native.Mathlib.Omega.{arith}
use Rattle.mnemonic.proofs.Ids.{nameless}
use Rattle.mnemonic.proofs.Table.{entry}
use Rattle.mnemonic.proofs.name.Goals as goal

pub returns-in-256-to-511 : goal.returns-in-256-to-511
returns-in-256-to-511 c = search (entry, arith)

pub returns-in_default : goal.returns-in_default
returns-in_default c = search (nameless, arith)
