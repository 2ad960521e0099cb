use native.Mathlib.Omega.{arith}
use lib.ListN.{get_or}
use Rattle.image.proofs.Form.{zeros_within}
use Rattle.image.proofs.Judging.{used-most, asked-yes, asked-no, upto-more, upto_all, not-formed, not-long}
use Rattle.image.proofs.slots.formed.Goals as goal
use Rattle.image.proofs.slots.formed.Goals.{then-bytes-kinds-via-then-bytes-kinds, then-bytes-kinds-via-else-bytes-kinds+then-bytes-ne0}

pub returns-then-bytes-kinds : goal.returns-then-bytes-kinds
returns-then-bytes-kinds c =
    let a = c.args in
    not-long a.kinds.now a.bytes.now
    (λ e. elim c.then-bytes-kinds.branch [
      | then-bytes-kinds-via-then-bytes-kinds w ↦ w.if-bytes-kinds.true (omega arith)
      | then-bytes-kinds-via-else-bytes-kinds+then-bytes-ne0 w ↦ w.if-bytes-ne0.true (omega arith)
    ])

pub returns-then-not-all_zero : goal.returns-then-not-all_zero
returns-then-not-all_zero c =
    let a = c.args in
    let j = c.loop-j.j in
    let most = used-most (get_or a.kinds.now j 0) in
    not-formed a.kinds.now a.bytes.now j c.loop-j-test.true
    (asked-no a.kinds.now a.bytes.now j _ c.used.ensures
    (zeros_within a.bytes.now _ _ (omega (arith, c.used.ensures)) (omega arith) c.all_zero.ensures) c.if-not-all_zero.true)

pub loop-j-preserved : goal.loop-j-preserved
loop-j-preserved c =
    let a = c.args in
    let j = c.loop-j.j in
    let most = used-most (get_or a.kinds.now j 0) in
    upto-more a.kinds.now a.bytes.now j c.loop-j.invariant
    (asked-yes a.kinds.now a.bytes.now j _ c.used.ensures
    (zeros_within a.bytes.now _ _ (omega (arith, c.used.ensures)) (omega arith) c.all_zero.ensures) c.if-not-all_zero.false)

pub returns : goal.returns
returns c =
    let a = c.args in
    upto_all a.kinds.now a.bytes.now c.loop-j.j c.loop-j-test.false (omega arith) (λ k. c.type_inv.bytes k) c.loop-j.invariant
