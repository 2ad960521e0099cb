-- What is wrong, class by class.
use mathlib.Core.Bool.{true, false}
use mathlib.Core.Path.{sym, subst, ◌∙◌}
use Rattle.std.proofs.lemmas.Result.{err_from_is_err_and}
use Rattle.opcode.specs.Number.{row_of}
use Rattle.opcode.proofs.Entries.{class-in, moved_in_lem, lanes-in}
use Rattle.instr.proofs.Sets.{all-below}
use Rattle.instr.proofs.Classes.{fault-memory, fault-memory-lane, fault-lane-memory, fault-lane, lane-right, lane-wrong, fault-block, fault-lanes, fault-float, fault-unassigned, AllBut, judged, fault-other}
use Rattle.instr.proofs.encoding.allowed.Goals as goal

pub returns-in-4-clause-is : goal.returns-in-4-clause-is
returns-in-4-clause-is c =
    let r = row_of c.args.id in
    let class = sym (c.immediates.ensures ∙ class-in r c.entry-entry.ensures) in
    c.exponent_allowed.ensures.is ∙ fault-memory r c.args.i _ (c.moved.ensures ∙ moved_in_lem r c.entry-entry.ensures)
    (class ∙ c.in-4.is)

pub returns-in_err-lane_allowed-in-5-clause-is : goal.returns-in_err-lane_allowed-in-5-clause-is
returns-in_err-lane_allowed-in-5-clause-is c =
    let r = row_of c.args.id in
    let class = sym (c.immediates.ensures ∙ class-in r c.entry-entry.ensures) in
    let p = err_from_is_err_and c.from_residual.result c.from_residual.ensures.1 in
    let l = lane-wrong _ _ _ c.in_err-lane_allowed-in-5.ensures.is c.in_err-lane_allowed-in-5.ensures.wrong in
    rw (p.1, p.2) (l.1 ∙ fault-lane-memory r c.args.i _ (c.lanes.ensures ∙ lanes-in r c.entry-entry.ensures) (class ∙ c.in-5.is) l.0)

pub returns-in_ok-lane_allowed-in-5-clause-is : goal.returns-in_ok-lane_allowed-in-5-clause-is
returns-in_ok-lane_allowed-in-5-clause-is c =
    let r = row_of c.args.id in
    let class = sym (c.immediates.ensures ∙ class-in r c.entry-entry.ensures) in
    c.exponent_allowed-in-5.ensures.is ∙ fault-memory-lane r c.args.i _ (c.lanes.ensures ∙ lanes-in r c.entry-entry.ensures) _
    (c.moved-in-5.ensures ∙ moved_in_lem r c.entry-entry.ensures)
    (class ∙ c.in-5.is) (lane-right _ _ c.in_ok-lane_allowed-in-5.ensures.is)

pub returns-in-6-clause-is : goal.returns-in-6-clause-is
returns-in-6-clause-is c =
    let r = row_of c.args.id in
    let class = sym (c.immediates.ensures ∙ class-in r c.entry-entry.ensures) in
    c.lane_allowed-in-6.ensures.is ∙ fault-lane r c.args.i _ (c.lanes-in-6.ensures ∙ lanes-in r c.entry-entry.ensures) (class ∙ c.in-6.is)

pub returns-then-all_lanes-clause-is : goal.returns-then-all_lanes-clause-is
returns-then-all_lanes-clause-is c =
    let r = row_of c.args.id in
    let class = sym (c.immediates.ensures ∙ class-in r c.entry-entry.ensures) in
    fault-lanes r c.args.i true (sym c.if-all_lanes.true ∙ all-below _ _ c.all_lanes.ensures) (class ∙ c.in-8.is)

pub returns-else-all_lanes-clause-is : goal.returns-else-all_lanes-clause-is
returns-else-all_lanes-clause-is c =
    let r = row_of c.args.id in
    let class = sym (c.immediates.ensures ∙ class-in r c.entry-entry.ensures) in
    fault-lanes r c.args.i false (sym c.if-all_lanes.false ∙ all-below _ _ c.all_lanes.ensures) (class ∙ c.in-8.is)

pub returns-then-is_block_type-clause-is : goal.returns-then-is_block_type-clause-is
returns-then-is_block_type-clause-is c =
    let r = row_of c.args.id in
    let class = sym (c.immediates.ensures ∙ class-in r c.entry-entry.ensures) in
    fault-block r c.args.i true (sym c.if-is_block_type.true ∙ c.is_block_type.ensures) (class ∙ c.in-9.is)

pub returns-else-is_block_type-clause-is : goal.returns-else-is_block_type-clause-is
returns-else-is_block_type-clause-is c =
    let r = row_of c.args.id in
    let class = sym (c.immediates.ensures ∙ class-in r c.entry-entry.ensures) in
    fault-block r c.args.i false (sym c.if-is_block_type.false ∙ c.is_block_type.ensures) (class ∙ c.in-9.is)

pub returns-in-10-clause-is : goal.returns-in-10-clause-is
returns-in-10-clause-is c =
    let r = row_of c.args.id in
    sym (fault-float r (sym (c.immediates.ensures ∙ class-in r c.entry-entry.ensures) ∙ c.in-10.is) c.args.i)

pub returns-in-11-clause-is : goal.returns-in-11-clause-is
returns-in-11-clause-is c =
    let r = row_of c.args.id in
    sym (fault-unassigned r (sym (c.immediates.ensures ∙ class-in r c.entry-entry.ensures) ∙ c.in-11.is) c.args.i)

pub returns-in_default-clause-is : goal.returns-in_default-clause-is
returns-in_default-clause-is c =
    let r = row_of c.args.id in
    sym (fault-other r (subst (AllBut judged) (c.immediates.ensures ∙ class-in r c.entry-entry.ensures) c.in_default.in_default-own.rest) c.args.i)
