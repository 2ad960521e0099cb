use native.Mathlib.Omega.{arith}
use mathlib.Core.Path.{sym, ◌∙◌}
use Rattle.run.proofs.Asking.{counts_of, kinds-inside, checked-first, no_room, other-args, other-out, other-form, all_asked}
use Rattle.run.proofs.questions.ask.Goals as goal

pub returns-then-verdict-ne-DONE : goal.returns-then-verdict-ne-DONE
returns-then-verdict-ne-DONE c = λ mem out lm lo. checked-first c.check-verdict.ensures c.args.args.now mem out c.if-verdict-ne-DONE.true

pub returns-then-memory-gt-MEMORY : goal.returns-then-memory-gt-MEMORY
returns-then-memory-gt-MEMORY c = λ mem out lm lo. no_room c.check-verdict.ensures c.args.args.now mem out c.if-verdict-ne-DONE.false c.refused.ensures (omega (arith, lm, c.if-memory-gt-MEMORY.true))

pub bounds-strip-5 : goal.bounds-strip-5
bounds-strip-5 c = omega (arith, counts_of c.check-verdict.ensures c.if-verdict-ne-DONE.false)

pub returns-then-args-parameters : goal.returns-then-args-parameters
returns-then-args-parameters c = λ mem out lm lo. other-args c.check-verdict.ensures c.args.args.now mem out c.if-verdict-ne-DONE.false (omega (arith, lm, c.if-memory-gt-MEMORY.false)) c.refused-then-args-parameters.ensures c.if-args-parameters.true

pub bounds-strip-7 : goal.bounds-strip-7
bounds-strip-7 c = omega (arith, counts_of c.check-verdict.ensures c.if-verdict-ne-DONE.false)

pub returns-then-out-strip : goal.returns-then-out-strip
returns-then-out-strip c = λ mem out lm lo. other-out c.check-verdict.ensures c.args.args.now mem out c.if-verdict-ne-DONE.false (omega (arith, lm, c.if-memory-gt-MEMORY.false)) c.if-args-parameters.false c.refused-then-out-strip.ensures (λ q. c.if-out-strip.true (sym lo ∙ q))

pub slice_bounds-formed-end : goal.slice_bounds-formed-end
slice_bounds-formed-end c = omega (arith, kinds-inside c.check-verdict.ensures c.if-verdict-ne-DONE.false)

pub returns-then-not-formed : goal.returns-then-not-formed
returns-then-not-formed c = λ mem out lm lo. other-form c.check-verdict.ensures c.args.args.now mem out c.if-verdict-ne-DONE.false (omega (arith, lm, c.if-memory-gt-MEMORY.false)) c.if-args-parameters.false (lo ∙ c.if-out-strip.false) c.formed.ensures c.refused-then-not-formed.ensures c.if-not-formed.true

pub returns : goal.returns
returns c = λ mem out lm lo. all_asked c.check-verdict.ensures c.args.args.now mem out c.if-verdict-ne-DONE.false (omega (arith, lm, c.if-memory-gt-MEMORY.false)) c.if-args-parameters.false (lo ∙ c.if-out-strip.false) c.formed.ensures c.if-not-formed.false
