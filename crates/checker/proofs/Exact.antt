-- EXACTLY: the check answers 0 where the strip keeps every rule and nowhere else, and a code and a place where that is its first breach. It
-- always answers, so a strip that breaks no rule keeps them all.
use Prim.Native.Nat.{ℕ, ◌+◌, ◌≤◌}
use mathlib.Core.Path.{◌≡◌, refl, subst}
use mathlib.Core.List.{List}
use mathlib.Core.Logic.{◌↔◌}
use native.Mathlib.Omega.{arith}
use Rattle.card.specs.Card.{DONE}
use Rattle.card.specs.declared.Answer.{Answer}
use Rattle.limits.specs.Limits.{file_limit}
use Rattle.leb128.specs.Bytes.{bytes}
use Rattle.opcode.specs.Table.{Code}
use Rattle.instr.specs.declared.Instr.{Instr}
use Rattle.instr.proofs.Refuses.{refuses-place}
use Rattle.instr.proofs.Ranges.{stands-some, stands-inside}
use Rattle.rules.specs.Header.{Header}
use Rattle.rules.specs.Typing.{Frame}
use Rattle.rules.specs.Strip.{Valid}
use Rattle.rules.specs.Breach.{Refused, At, Breach, long, stub, unmarked, other_version, parameters, further, results, kind, kinds_short, short, block_type, opcode, float, number, lane, align, local, nest, label, operand, deep, result, trailing, Says, valid, breach}
use Rattle.rules.proofs.Onward.{declared}
use Rattle.rules.proofs.Verdicts.{says-once, breach-coded, valid-no-breach}
use Rattle.checker.specs.Check.{Checked}

pub says-done : {s : List ℕ} {c l : ℕ} → Says s c l → c ≡ DONE → Valid s
says-done (valid v) z = v
says-done (breach b) z = absurd (breach-coded b z)

module _ {s : List ℕ} {r : Answer} (w : Checked s r) where
  -- what is answered is what can be said
  pub says-exact : (c l : ℕ) → ((r.code ≡ c) × (r.place ≡ l)) ↔ Says s c l
  says-exact c l = ((λ e. subst (λ (x : ℕ). Says s x l) e.0 (subst (Says s r.code) e.1 w.says)), λ q. says-once w.says q)

  pub done-exact : (r.code ≡ DONE) ↔ Valid s
  done-exact = (says-done w.says, λ v. (says-once w.says (valid v)).0)

  pub breach-exact : (c l : ℕ) → (c ≡ DONE → ⊥) → ((r.code ≡ c) × (r.place ≡ l)) ↔ Breach s c l
  breach-exact c l z = ((λ e. by ((says-exact c l).0 e) z), λ b. says-once w.says (breach b))
    where
      by : {c l : ℕ} → Says s c l → (c ≡ DONE → ⊥) → Breach s c l
      by (valid v) z = absurd (z refl)
      by (breach b) z = b

  pub valid-exact : Valid s ↔ ((c l : ℕ) → Breach s c l → ⊥)
  valid-exact = ((λ v c l b. valid-no-breach v b), by w.says)
    where
      by : {c l : ℕ} → Says s c l → ((c l : ℕ) → Breach s c l → ⊥) → Valid s
      by (valid v) f = v
      by {c} {l} (breach b) f = absurd (f c l b)

-- ---- every place is one of a file: it fits 24 bits

module _ {s : List ℕ} (b : bytes s) where
  refused-place : {c l : ℕ} → Refused s c l → l ≤ file_limit
  refused-place f = omega (arith, refuses-place s b f.header.version f.at f.refuses, (declared f.reached).sized)

  read-place : {h : Header} {p : ℕ} {fs : List Frame} {i : Instr} {c : Code} → At s h p fs i c → p + 1 ≤ file_limit
  read-place a = omega (arith, stands-some a.reads.stands, stands-inside a.reads.stands, (declared a.reached).sized)

  breach-place : {c l : ℕ} → Breach s c l → l ≤ file_limit
  breach-place (long g) = omega arith
  breach-place (stub g) = omega arith
  breach-place (unmarked z f) = omega arith
  breach-place (other_version rest z e f) = omega arith
  breach-place (parameters v p rest z w e g) = omega arith
  breach-place (further v p l rest z w e a g) = omega arith
  breach-place (results v p l r rest z w e a b g) = omega arith
  breach-place (kind v p l r b ks rest z w e few m f) = omega (arith, few.parameters, few.further, few.results)
  breach-place (kinds_short v p l r ks z w e few m) = z.most
  breach-place (short f) = refused-place f
  breach-place (block_type f) = refused-place f
  breach-place (opcode f) = refused-place f
  breach-place (float f) = refused-place f
  breach-place (number f) = refused-place f
  breach-place (lane f) = refused-place f
  breach-place (align f) = refused-place f
  breach-place (local a names f) = omega (arith, read-place a)
  breach-place (nest a o g) = omega (arith, read-place a)
  breach-place (label a b f) = omega (arith, read-place a)
  breach-place (operand a o d l f) = omega (arith, read-place a)
  breach-place (deep a t g) = omega (arith, read-place a)
  breach-place (result a f) = omega (arith, read-place a)
  breach-place (trailing a m g) = read-place a

  says-place : {c l : ℕ} → Says s c l → l ≤ file_limit
  says-place (valid v) = omega arith
  says-place (breach x) = breach-place x

  pub place-most : {r : Answer} → Checked s r → r.place ≤ file_limit
  place-most w = says-place w.says
