use native.Mathlib.Omega.{arith}
use Prim.Native.Nat.{ℕ, ◌+◌, ◌-◌}
use mathlib.Core.Path.{◌≡◌, ap}
use Rattle.leb128.specs.Inner.Room.{int}
use Rattle.leb128.proofs.WriteLoops.{form-some, goes_on, written, not_last, is_last}
use Rattle.leb128.proofs.writing.put.Goals as goal

pub overflow_sub-i-end : goal.overflow_sub-i-end
overflow_sub-i-end c = omega (arith, form-some c.args.limit (int c.args.z.negative c.args.z.n))

pub loop-i-preserved : goal.loop-i-preserved
loop-i-preserved c =
    goes_on c.loop-i.invariant (not_last c.loop-i.invariant (omega (arith, c.requires.1))) _ (ap (λ (x : ℕ). 128 + x) c.low_bits.ensures.0)

pub overflow_sub-out : goal.overflow_sub-out
overflow_sub-out c = omega (arith, form-some c.args.limit (int c.args.z.negative c.args.z.n))

pub bounds-out-end : goal.bounds-out-end
bounds-out-end c = omega (arith, overflow_sub-out c)

pub returns : goal.returns
returns c =
    let w = c.loop-i.invariant in
    let e : c.args.end - 1 ≡ c.loop-i.i = omega (arith, overflow_sub-out c, c.requires.1, form-some c.args.limit (int c.args.z.negative c.args.z.n)) in
    rw e (written w (is_last w (omega (arith, overflow_sub-out c, c.requires.1))) _ c.low_bits-2.ensures.0)
