-- Each class has its fields; the class is the row's.
use Prim.Native.Nat.{ℕ}
use mathlib.Core.Path.{sym, ap, ◌∙◌}
use Rattle.opcode.specs.Immediate.{nothing, index, block_type, word, long, memory, memory_lane, lane_index, sixteen_bytes, sixteen_lanes}
use Rattle.opcode.proofs.Entries.{class-in}
use Rattle.instr.specs.Layout.{immediate_fields}
use Rattle.closing.specs.Search.{past_number, past_bytes}
use Rattle.closing.proofs.Passes.{past-class}
use Rattle.closing.proofs.passing.past_immediates.Goals as goal

pub returns-in-0 : goal.returns-in-0
unfolding immediate_fields
returns-in-0 c = λ row is. sym (past-class row _ _ nothing (sym (c.immediates.ensures ∙ class-in row is) ∙ c.in-0.is))

pub returns-in-1 : goal.returns-in-1
unfolding immediate_fields
returns-in-1 c =
    λ row is.
    c.past_number.ensures.0 ∙ sym (past-class row _ _ index (sym (c.immediates.ensures ∙ class-in row is) ∙ c.in-1.is))

pub returns-in-2 : goal.returns-in-2
unfolding immediate_fields
returns-in-2 c =
    λ row is.
    c.past_number-in-2.ensures.0 ∙ sym (past-class row _ _ word (sym (c.immediates.ensures ∙ class-in row is) ∙ c.in-2.is))

pub returns-in-3 : goal.returns-in-3
unfolding immediate_fields
returns-in-3 c =
    λ row is.
    c.past_number-in-3.ensures.0 ∙ sym (past-class row _ _ long (sym (c.immediates.ensures ∙ class-in row is) ∙ c.in-3.is))

pub returns-in-4 : goal.returns-in-4
unfolding immediate_fields
returns-in-4 c =
    λ row is. c.past_number-in-4-2.ensures.0 ∙ ap (past_number c.args.s.now) c.past_number-in-4.ensures.0
    ∙ sym (past-class row _ _ memory (sym (c.immediates.ensures ∙ class-in row is) ∙ c.in-4.is))

pub returns-in-5 : goal.returns-in-5
unfolding immediate_fields
returns-in-5 c =
    λ row is. c.past_bytes.ensures.0
    ∙ ap (λ (q : ℕ). past_bytes c.args.s.now q 1)
    (c.past_number-in-5-2.ensures.0 ∙ ap (past_number c.args.s.now) c.past_number-in-5.ensures.0)
    ∙ sym (past-class row _ _ memory_lane (sym (c.immediates.ensures ∙ class-in row is) ∙ c.in-5.is))

pub returns-in-6 : goal.returns-in-6
unfolding immediate_fields
returns-in-6 c =
    λ row is.
    c.past_bytes-in-6.ensures.0 ∙ sym (past-class row _ _ lane_index (sym (c.immediates.ensures ∙ class-in row is) ∙ c.in-6.is))

pub returns-in-7 : goal.returns-in-7
unfolding immediate_fields
returns-in-7 c =
    λ row is. c.past_bytes-in-7.ensures.0
    ∙ sym (past-class row _ _ sixteen_bytes (sym (c.immediates.ensures ∙ class-in row is) ∙ c.in-7.is))

pub returns-in-8 : goal.returns-in-8
unfolding immediate_fields
returns-in-8 c =
    λ row is. c.past_bytes-in-8.ensures.0
    ∙ sym (past-class row _ _ sixteen_lanes (sym (c.immediates.ensures ∙ class-in row is) ∙ c.in-8.is))

pub returns-in-9 : goal.returns-in-9
unfolding immediate_fields
returns-in-9 c =
    λ row is.
    c.past_bytes-in-9.ensures.0 ∙ sym (past-class row _ _ block_type (sym (c.immediates.ensures ∙ class-in row is) ∙ c.in-9.is))
