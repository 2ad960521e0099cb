-- The copy has room.
use Prim.Native.Nat.{ℕ, ◌+◌}
use mathlib.Core.Path.{◌≡◌, refl, ap}
use native.Mathlib.Omega.{arith}
use borrow.Author.Rules.{rules}
use lib.ListN.{length}
use Rattle.buffer.proofs.Writing.{part-copied}
use Rattle.instr.proofs.encoding.put_bytes.Goals as goal

pub returns : goal.returns
returns c =
    let a = c.args in
    let e = c.copy.ensures in
    let long : length a.a ≡ 16 = search rules in
    record {
      to = ap (λ (n : ℕ). a.at + n) e.0;
      bytes = part-copied a.out.now a.a a.at _ (omega (arith, c.requires)) refl (omega (arith, long, c.requires)) e.1;
    }
