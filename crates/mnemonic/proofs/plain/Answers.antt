-- The name of each first byte, arm by arm; what no arm has has no name.
use mathlib.Core.Path.{sym}
use native.Mathlib.Omega.{arith}
use lib.ListN.{length}
use Rattle.std.proofs.lemmas.List.{nil_from_length}
use Rattle.opcode.specs.Table.{plain_name}
use Rattle.opcode.specs.Number.{name_of}
use Rattle.opcode.proofs.Arms.{past-arms}
use Rattle.mnemonic.proofs.Table.{named}
use Rattle.mnemonic.proofs.plain.Code.{function}
use Rattle.mnemonic.proofs.plain.Goals as goal

pub returns-in-2 : goal.returns-in-2
returns-in-2 c = named c.in-2.is

pub returns-in-3 : goal.returns-in-3
returns-in-3 c = named c.in-3.is

pub returns-in-11 : goal.returns-in-11
returns-in-11 c = named c.in-11.is

pub returns-in-12 : goal.returns-in-12
returns-in-12 c = named c.in-12.is

pub returns-in-13 : goal.returns-in-13
returns-in-13 c = named c.in-13.is

pub returns-in-26 : goal.returns-in-26
returns-in-26 c = named c.in-26.is

pub returns-in-32 : goal.returns-in-32
returns-in-32 c = named c.in-32.is

pub returns-in-33 : goal.returns-in-33
returns-in-33 c = named c.in-33.is

pub returns-in-34 : goal.returns-in-34
returns-in-34 c = named c.in-34.is

pub returns-in-65 : goal.returns-in-65
returns-in-65 c = named c.in-65.is

pub returns-in-66 : goal.returns-in-66
returns-in-66 c = named c.in-66.is

pub returns-in-69 : goal.returns-in-69
returns-in-69 c = named c.in-69.is

pub returns-in-73 : goal.returns-in-73
returns-in-73 c = named c.in-73.is

pub returns-in-106 : goal.returns-in-106
returns-in-106 c = named c.in-106.is

pub returns-in-107 : goal.returns-in-107
returns-in-107 c = named c.in-107.is

pub returns-in_default : goal.returns-in_default
unfolding name_of plain_name
returns-in_default c =
    let none = past-arms (λ k. length (name_of k)) function.body 256 tt (λ h. absurd (omega arith)) c.in_default.in_default-own.rest in
    sym (nil_from_length _ (sym none))
