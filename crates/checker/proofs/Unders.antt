-- What is under the operands.
use Prim.Native.Nat.{ℕ, ◌+◌}
use mathlib.Core.Path.{◌≡◌, refl, sym, ap, subst, ◌∙◌}
use mathlib.Core.Bool.{Bool, true, false, not}
use mathlib.Core.List.{List, ◌++◌, append_assoc}
use native.Mathlib.Omega.{arith}
use lib.ListN.{length, length-append}
use lib.Dec.{eqb}
use borrow.Author.Tests.{eqb-true, eqb-false, not-true, not-false}
use Rattle.std.specs.Prelude.{Some, None, is_some}
use Rattle.std.specs.Option.{option_eq}
use Rattle.std.specs.declared.option.Option.{Option}
use Rattle.opcode.specs.Kind.{Kind}
use Rattle.rules.specs.Typing.{Frame, Has, all_known, any}
use Rattle.checker.specs.Walk.{KindBytes}
use Rattle.checker.specs.Inner.Stack.{Top, Under, under, missing}
use Rattle.checker.proofs.Held.{held-part}

module _ {f : Frame} {ins : List Kind} {floor : ℕ} where
  pub under-below : {r : Option ℕ} {base : ℕ} → Under f ins floor r → r ≡ Some base → (below : List Kind) × Has f below ins × (floor + length below ≡ base)
  under-below (under below h) e = (below, h, (cc))
  under-below (missing g) e = absurd (let z : ◌≡◌ {A = ℕ} 0 1 = cc in omega arith)

  pub under_none : {r : Option ℕ} → Under f ins floor r → r ≡ None → (below : List Kind) → Has f below ins → ⊥
  under_none (under below h) e = absurd (let z : ◌≡◌ {A = ℕ} 0 1 = cc in omega arith)
  under_none (missing g) e = g

-- what the code asks of the answer
pub none-told : (r : Option ℕ) → is_some r ≡ false → r ≡ None
none-told None e = refl
none-told (Some n) e = absurd (let z : ◌≡◌ {A = ℕ} 0 1 = cc in omega arith)

pub some-told : (r : Option ℕ) → is_some r ≡ true → (n : ℕ) × (r ≡ Some n)
some-told None e = absurd (let z : ◌≡◌ {A = ℕ} 0 1 = cc in omega arith)
some-told (Some n) e = (n, refl)

pub same-told : (r : Option ℕ) (n : ℕ) → not (option_eq eqb r (Some n)) ≡ false → r ≡ Some n
same-told None n e = absurd (let z : ◌≡◌ {A = ℕ} 0 1 = cc in omega arith)
same-told (Some m) n e = ap (λ (k : ℕ). Some k) (eqb-true m n (not-false (eqb m n) e))

pub other-told : (r : Option ℕ) (n : ℕ) → not (option_eq eqb r (Some n)) ≡ true → r ≡ Some n → ⊥
other-told None n e q = let z : ◌≡◌ {A = ℕ} 0 1 = cc in omega arith
other-told (Some m) n e q = eqb-false m n (not-true (eqb m n) e) (cc)

-- the values below are some of those there
fewer : {f : Frame} {below ins : List Kind} → Has f below ins → (above : List Kind) × (f.values ≡ below ++ above)
fewer {ins = ins} (all_known e) = (ins, e)
fewer {f} (any u d e) = (f.values, refl)

module _ {kinds : List ℕ} {depth floor : ℕ} {dead : Bool} {outer : List Kind} {f : Frame} (t : Top kinds depth floor dead outer f) where
  -- and are held
  pub part : {below ins : List Kind} → Has f below ins → KindBytes kinds (floor + length below) (outer ++ below)
  part {below} h =
      let a = fewer h in
      let long : length (outer ++ below) ≡ floor + length below = omega (arith, length-append outer below, t.floor_is) in
      subst (λ (n : ℕ). KindBytes kinds n (outer ++ below)) long
      (held-part t.holds (outer ++ below) a.0 (ap (λ (x : List Kind). outer ++ x) a.1 ∙ sym (append_assoc outer below a.0)))
