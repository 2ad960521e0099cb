-- Each class has its function; the class is the row's.
use mathlib.Core.Path.{sym, ap, ◌∙◌, refl}
use Rattle.opcode.specs.Immediate.{nothing, index, block_type, word, long, sixteen_bytes, sixteen_lanes}
use Rattle.opcode.proofs.Entries.{class-in, moved_in_lem, lanes-in}
use Rattle.instr.specs.Decode.{done, immediates_at}
use Rattle.instr.proofs.Classes.{class-at, body-class, body-lane, body-memory, body-float, body-none}
use Rattle.instr.proofs.decoding.body.Goals as goal

pub returns-in-0-clause-is : goal.returns-in-0-clause-is
unfolding immediates_at
returns-in-0-clause-is c row is =
    ap (done c.args.at c.args.code.next) c.bare-bare.ensures
    ∙ sym (body-class row nothing (class-at row _ (c.immediates-class.ensures ∙ class-in row is) c.in-0.is) _ _ _ _)

pub returns-in-6-clause-is : goal.returns-in-6-clause-is
returns-in-6-clause-is c row is =
    rw c.bare-bare.ensures at (c.with_lane.ensures.is c.args.at)
    ∙ body-lane row _ (c.immediates-class.ensures ∙ class-in row is) _ _ _ _ _ (c.lanes.ensures ∙ lanes-in row is) c.in-6.is

pub returns-in-10-clause-is : goal.returns-in-10-clause-is
returns-in-10-clause-is c row is = rw c.new.ensures (sym (body-float row (class-at row _ (c.immediates-class.ensures ∙ class-in row is) c.in-10.is) _ _ _ _))

pub returns-in-4-clause-is : goal.returns-in-4-clause-is
returns-in-4-clause-is c row is =
    c.with_memory.ensures.is _ _ c.bare-bare.ensures ∙ body-memory row _ (c.immediates-class.ensures ∙ class-in row is) _ _ _ _ _ _ _
    (c.moved.ensures ∙ moved_in_lem row is)
    (c.lanes-in-4.ensures ∙ lanes-in row is) refl c.in-4.in_default-own.rest
    c.in-4.if-class-lt6-own.true

pub returns-in_default-clause-is : goal.returns-in_default-clause-is
returns-in_default-clause-is c row is =
    rw c.new-in_default.ensures (sym (body-none row _ (c.immediates-class.ensures ∙ class-in row is) _ _ _ _ c.in_default.in_default-own.rest c.in_default.if-class-lt6-own.false))

pub returns-in-1-clause-is : goal.returns-in-1-clause-is
unfolding immediates_at
returns-in-1-clause-is c row is =
    c.with_index.ensures.is _ _ c.bare-bare.ensures
    ∙ sym (body-class row index (class-at row _ (c.immediates-class.ensures ∙ class-in row is) c.in-1.is) _ _ _ _)

pub returns-in-2-clause-is : goal.returns-in-2-clause-is
unfolding immediates_at
returns-in-2-clause-is c row is =
    c.with_word.ensures.is _ _ c.bare-bare.ensures
    ∙ sym (body-class row word (class-at row _ (c.immediates-class.ensures ∙ class-in row is) c.in-2.is) _ _ _ _)

pub returns-in-3-clause-is : goal.returns-in-3-clause-is
unfolding immediates_at
returns-in-3-clause-is c row is =
    c.with_long.ensures.is _ _ c.bare-bare.ensures
    ∙ sym (body-class row long (class-at row _ (c.immediates-class.ensures ∙ class-in row is) c.in-3.is) _ _ _ _)

pub returns-in-7-clause-is : goal.returns-in-7-clause-is
unfolding immediates_at
returns-in-7-clause-is c row is =
    c.with_bytes.ensures.is _ _ c.bare-bare.ensures
    ∙ sym (body-class row sixteen_bytes (class-at row _ (c.immediates-class.ensures ∙ class-in row is) c.in-7.is) _ _ _ _)

pub returns-in-8-clause-is : goal.returns-in-8-clause-is
unfolding immediates_at
returns-in-8-clause-is c row is =
    c.with_lanes.ensures.is _ _ c.bare-bare.ensures
    ∙ sym (body-class row sixteen_lanes (class-at row _ (c.immediates-class.ensures ∙ class-in row is) c.in-8.is) _ _ _ _)

pub returns-in-9-clause-is : goal.returns-in-9-clause-is
unfolding immediates_at
returns-in-9-clause-is c row is =
    c.with_block.ensures.is _ _ c.bare-bare.ensures
    ∙ sym (body-class row block_type (class-at row _ (c.immediates-class.ensures ∙ class-in row is) c.in-9.is) _ _ _ _)
