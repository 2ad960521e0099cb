-- Among the instructions the check ends at one place, for one reason.
use Prim.Native.Nat.{ℕ, suc, ◌+◌}
use mathlib.Core.Path.{◌≡◌, refl, sym}
use mathlib.Core.List.{List, [], ◌∷◌}
use mathlib.Core.Logic.{⊎_elim}
use lib.ListN.{get_or}
use Rattle.card.specs.Card.{DONE, LOCAL, OPERAND, DEEP, RESULT, TRAILING, NEST, LABEL}
use Rattle.instr.specs.Refuses.{Refuses}
use Rattle.instr.proofs.Refuses.{refuses-once}
use Rattle.rules.specs.Header.{Header}
use Rattle.rules.specs.Typing.{Frame}
use Rattle.rules.specs.Strip.{Reaches}
use Rattle.rules.proofs.Ranks.{Stop, stop-once}
use Rattle.rules.proofs.Onward.{Onward, here, next, from_front, compare}
use Rattle.rules.proofs.Events.{Asked, goes_on}

-- rank 7 is broken by an instruction that goes on
pub record Ended (s : List ℕ) (h : Header) (p : ℕ) (κs : List Frame) (k : ℕ) : Type 0 where
  pub reached : Reaches s h p κs
  pub stop : Stop (Asked s h p κs) k
  pub last : k ≡ 7 → ⊥

-- code and place at a rank after the first
abbrev code_at : ℕ → ℕ
code_at k = get_or (LOCAL ∷ NEST ∷ LABEL ∷ OPERAND ∷ RESULT ∷ DEEP ∷ DONE ∷ TRAILING ∷ []) k DONE

abbrev place_at : ℕ → ℕ → ℕ
place_at p k = get_or (p ∷ p ∷ p ∷ p ∷ p ∷ p ∷ 0 ∷ (p + 1) ∷ []) k 0

-- and at each: the first is the instruction's refusal
pub data Tells (v : ℕ) (s : List ℕ) (p : ℕ) : ℕ → ℕ → ℕ → Type 0 where
  refusal : {c l : ℕ} → Refuses v s p c l → Tells v s p 0 c l
  later : (k : ℕ) → Tells v s p (suc k) (code_at k) (place_at p k)

pub tells-once : {v : ℕ} {s : List ℕ} {p k c l c' l' : ℕ} → Tells v s p k c l → Tells v s p k c' l' → (c ≡ c') × (l ≡ l')
tells-once {v} {s} {p} (refusal a) (refusal b) = refuses-once v s p a b
tells-once (later k) (later j) = (refl, refl)

pub record SameEnd (s : List ℕ) (h : Header) (p q k : ℕ) (λs : List Frame) : Type 0 where
  pub place : p ≡ q
  pub stop : Stop (Asked s h q λs) k

-- it ends where it is
meet : {s : List ℕ} {h : Header} {p q k : ℕ} {κs λs : List Frame} → Onward s h p κs q λs → Stop (Asked s h p κs) k → (k ≡ 7 → ⊥) → SameEnd s h p q k λs
meet here stop last = record { place = refl; stop = stop }
meet {s} {h} {p} {κs = κs} (next r t l o) stop last = absurd (last (stop-once stop (goes_on s h p κs r t l)))

pub ended-once : {s : List ℕ} {h : Header} {p q j k : ℕ} {κs λs : List Frame} → Ended s h p κs j → Ended s h q λs k → (p ≡ q) × (j ≡ k)
ended-once {s} {h} {p} {q} {j} {k} {κs} {λs} a b =
    ⊎_elim
    (λ o. let m = meet o a.stop a.last in (m.place, stop-once m.stop b.stop))
    (λ o. let m = meet o b.stop b.last in (sym m.place, sym (stop-once m.stop a.stop)))
    (compare (from_front a.reached) (from_front b.reached))
