-- On a strip that passes, the search finds the `end` that closes the block.
use Prim.Native.Nat.{ℕ, suc, ◌+◌, ◌<◌}
use mathlib.Core.Path.{◌≡◌, ap, sym, ◌∙◌, subst}
use mathlib.Core.Bool.{Bool, cond}
use mathlib.Core.List.{List, ◌∷◌}
use mathlib.Core.Option.{some}
use native.Mathlib.Omega.{arith}
use borrow.Author.Tests.{lt-ltb}
use Rattle.leb128.specs.Bytes.{bytes}
use Rattle.opcode.specs.Table.{Code}
use Rattle.instr.specs.declared.Instr.{Instr}
use Rattle.instr.proofs.Ranges.{stands-some, stands-inside}
use Rattle.rules.specs.Typing.{Frame}
use Rattle.rules.specs.Strip.{Reads, Reaches, Valid}
use Rattle.standard.specs.Closing.{Role, role, Closes, close}
use Rattle.standard.specs.Inner.{ClosesIn, closed_in, goes_on_in, over_block_in}
use Rattle.standard.proofs.Unwinding.{Room, finds-end}
use Rattle.closing.specs.Search.{Passed, role_of, on_from, end_by, end_of}
use Rattle.closing.proofs.Passes.{passes}
use Rattle.closing.proofs.Turns.{turns}

forward : {ver : ℕ} {s : List ℕ} {room p q : ℕ} → ClosesIn ver s room p q → p < q
forward (closed_in r e) = omega (arith, stands-some r.stands)
forward (goes_on_in r e c) = omega (arith, stands-some r.stands, forward c)
forward (over_block_in r e c c') = omega (arith, stands-some r.stands, forward c, forward c')

module _ {ver : ℕ} {s : List ℕ} (b : bytes s) where
  turn-as : {p n : ℕ} {i : Instr} {c : Code} {x : Role} → Reads ver s p i c n → role c ≡ x → (room : ℕ) → end_of s room p ≡ end_by x room (p + n) (end_of s)
  turn-as {p} {n} r e room =
      turns s b room p (omega (arith, stands-some r.stands, stands-inside r.stands))
      ∙ ap (λ (w : Passed). end_by (role_of w.row) room w.next (end_of s)) (passes s r) ∙ ap (λ (y : Role). end_by y room (p + n) (end_of s)) e

  -- WHAT CLOSES IT IS FOUND
  pub finds : {room p q : ℕ} → ClosesIn ver s room p q → end_of s room p ≡ q
  finds {room} (closed_in r e) = turn-as r e room
  finds {room} (goes_on_in r e c) = turn-as r e room ∙ finds c
  finds (over_block_in {room = room} {p = p} {q = q} {m = m} {n = n} r e c c') =
      turn-as r e (suc room) ∙ ap (λ (k : ℕ). on_from (p + n) k (end_of s (suc room))) (finds c)
      ∙ ap (λ (t : Bool). cond t (end_of s (suc room) m) 0) (lt-ltb (p + n) m (forward c)) ∙ finds c'

-- ON A STRIP THAT PASSES: a block that is open at a place is closed where the search from there ends, with the room that is left to the blocks inside
-- it
pub on-valid : {s : List ℕ} (b : bytes s) (v : Valid s) {p : ℕ} {f g : Frame} {fs : List Frame} → Reaches s v.header p (f ∷ g ∷ fs) → (room : ℕ)
    → Room (f ∷ g ∷ fs) room
    → (close v.header.version s p ≡ some (end_of s room p)) × Closes v.header.version s p (end_of s room p)
on-valid {s} b v {p} reached room k =
    let w = finds-end v reached in
    let e : end_of s room p ≡ w.place = finds b (w.with-room room k) in (
      w.found ∙ ap some (sym e),
      subst (Closes v.header.version s p) (sym e) w.closes-there,
    )
