-- DEMAND 3, first half, from the check's answer on: for a strip that the check answers 0 for, the standard's machine is never stuck.
use Prim.Native.Nat.{ℕ}
use mathlib.Core.Path.{◌≡◌, subst}
use mathlib.Core.List.{List}
use Rattle.card.specs.Card.{DONE}
use Rattle.card.specs.declared.Answer.{Answer}
use Rattle.leb128.specs.Bytes.{bytes}
use Rattle.machine.specs.Value.{Value}
use Rattle.rules.specs.Header.{Header, Declares}
use Rattle.rules.specs.Strip.{Valid}
use Rattle.rules.proofs.Headers.{declares-once}
use Rattle.rules.proofs.Onward.{declared}
use Rattle.checker.specs.Check.{Checked}
use Rattle.checker.proofs.Exact.{done-exact}
use Rattle.standard.specs.Standard.{Config, halted, runs, begin}
use Rattle.standard.specs.Safety.{Sound, Safe}
use Rattle.standard.proofs.Never.{never_stuck, never-stuck-from-begin, safe-unhalted}
use Rattle.run.specs.Resume.{Pictures}
use Rattle.image.specs.Slots.{InSlots}

-- the check answered 0; the strip declares this header, the arguments are of the form that it declares, and the memory is bytes, few or many
module _ {s : List ℕ} {r : Answer} (checked : Checked s r) (passed : r.code ≡ DONE) {h : Header} (declares : Declares s h) {args : List ℕ} {vs : List Value}
    (given : InSlots h.parameters args vs) (mem : List ℕ) (m : bytes mem) where
  -- after any number of steps: going on in a sound state, ended with results of the declared kinds and in range, or trapped at an access past the
  -- memory's end
  pub checked-never-stuck : (k : ℕ) → Safe s h (begin h vs mem) (runs s h k (begin h vs mem))
  checked-never-stuck k = subst Reached same (λ a. never-stuck-from-begin v vs mem (record { kinds = a.kinds; range = a.range; bytes = m }) k) given
    where
      v : Valid s
      v = (done-exact checked).0 passed

      same : v.header ≡ h
      same = declares-once s v.header h (declared v.reached) declares

      Reached : Header → Type 0
      Reached x = InSlots x.parameters args vs → Safe s x (begin x vs mem) (runs s x k (begin x vs mem))

  pub checked-never-halted : (k : ℕ) → runs s h k (begin h vs mem) ≡ halted → ⊥
  checked-never-halted k = safe-unhalted (checked-never-stuck k)

-- DEMAND 3 from any image that passes (02, C-14): the state that it shows is sound, so the machine is not stuck from there on either
module _ {s : List ℕ} {r : Answer} (checked : Checked s r) (passed : r.code ≡ DONE) {h : Header} (declares : Declares s h) {mem buffer : List ℕ} {c : Config}
    (pictures : Pictures s h mem buffer c) where
  pub resumed-never-stuck : (k : ℕ) → Safe s h c (runs s h k c)
  resumed-never-stuck k = subst Reached same (λ sound. never_stuck v c sound k) pictures.sound
    where
      v : Valid s
      v = (done-exact checked).0 passed

      same : v.header ≡ h
      same = declares-once s v.header h (declared v.reached) declares

      Reached : Header → Type 0
      Reached x = Sound s x c → Safe s x c (runs s x k c)

  pub resumed-never-halted : (k : ℕ) → runs s h k c ≡ halted → ⊥
  resumed-never-halted k = safe-unhalted (resumed-never-stuck k)
