-- Slots judged one after the other by the kinds' bytes.
use Prim.Native.Nat.{ℕ, zero, suc, ◌+◌, ◌*◌, ◌≤◌, ◌<◌}
use mathlib.Core.Path.{◌≡◌, refl, ap, sym, ◌∙◌, subst}
use mathlib.Core.Bool.{Bool, true, false, cond}
use mathlib.Core.List.{List, [], ◌∷◌, map}
use native.Mathlib.Nat.{le_antisymm}
use native.Mathlib.Omega.{arith}
use lib.Dec.{ltb, eqb}
use borrow.Author.Tests.{ltb-true, ltb-false}
use lib.ListN.{length, get_or, length-map}
use Rattle.limits.specs.Limits.{slot}
use Rattle.operation.proofs.Laws.Number.{Bytes}
use Rattle.opcode.specs.Kind.{Kind, i32, i64, v128, kind_byte, bytes_used}
use Rattle.machine.specs.Value.{Value}
use Rattle.image.specs.Slots.{InSlots, Tells, yes, no}
use Rattle.image.specs.Inner.Parts.{Zeros, used_by}
use Rattle.image.proofs.Form.{formed-given, given-formed}
use Rattle.image.proofs.Held.{slots-long}

-- ---- answers

pub told-yes : {P : Type 0} {r : Bool} → Tells P r → r ≡ true → P
told-yes (yes p) e = p
told-yes (no n) e = absurd (let z : ◌≡◌ {A = ℕ} 0 1 = cc in omega arith)

pub told-no : {P : Type 0} {r : Bool} → Tells P r → r ≡ false → P → ⊥
told-no (yes p) e q = let z : ◌≡◌ {A = ℕ} 0 1 = cc in omega arith
told-no (no n) e q = n q

-- ---- one slot

used-by : (k : Kind) → used_by (kind_byte k) ≡ bytes_used k
used-by i32 = refl
used-by i64 = refl
used-by v128 = refl

pub used-most : (b : ℕ) → used_by b ≤ slot
used-most b = at (eqb b (kind_byte i32)) (eqb b (kind_byte i64))
  where
    at : (t u : Bool) → cond t (bytes_used i32) (cond u (bytes_used i64) (bytes_used v128)) ≤ slot
    at true u = omega arith
    at false true = omega arith
    at false false = omega arith

-- what the code asks of the j-th
abbrev pub Asked : List ℕ → List ℕ → ℕ → Type 0
Asked kinds bs j = Zeros (slot * j + used_by (get_or kinds j 0)) (slot * j + slot) bs

module _ (kinds bs : List ℕ) (j u : ℕ) {r : Bool} (e : u ≡ used_by (get_or kinds j 0)) (t : Tells (Zeros (slot * j + u) (slot * j + slot) bs) r) where
  told : Tells (Asked kinds bs j) r
  told = subst (λ (n : ℕ). Tells (Zeros (slot * j + n) (slot * j + slot) bs) r) e t

  pub asked-yes : r ≡ true → Asked kinds bs j
  asked-yes = told-yes told

  pub asked-no : r ≡ false → Asked kinds bs j → ⊥
  asked-no = told-no told

-- ---- all of them

-- those before the j-th
abbrev pub Upto : List ℕ → List ℕ → ℕ → Type 0
Upto kinds bs j = (k : ℕ) → k < j → Asked kinds bs k

-- what is told of the kinds whose bytes these are
abbrev pub Judged : List ℕ → List ℕ → Bool → Type 0
Judged kinds bs r = (ks : List Kind) → kinds ≡ map kind_byte ks → Tells ((vs : List Value) × InSlots ks bs vs) r

kind_at : (ks : List Kind) (j : ℕ) → j < length ks → get_or (map kind_byte ks) j 0 ≡ kind_byte (get_or ks j i32)
kind_at [] j h = absurd (let z : ⊥ = omega arith in z)
kind_at (k ∷ ks) zero h = refl
kind_at (k ∷ ks) (suc j) h = kind_at ks j (omega arith)

module _ (kinds bs : List ℕ) where
  counted : (ks : List Kind) → kinds ≡ map kind_byte ks → length kinds ≡ length ks
  counted ks e = ap length e ∙ length-map ks kind_byte

  -- the two ways to say it
  same : (ks : List Kind) → kinds ≡ map kind_byte ks → (j : ℕ) → j < length kinds → slot * j + used_by (get_or kinds j 0) ≡ slot * j + bytes_used (get_or ks j i32)
  same ks e j l =
      ap (λ (n : ℕ). slot * j + n)
      (ap used_by (ap (λ (x : List ℕ). get_or x j 0) e ∙ kind_at ks j (omega (arith, counted ks e))) ∙ used-by (get_or ks j i32))

  pub upto-none : Upto kinds bs 0
  upto-none k l = absurd (let z : ⊥ = omega arith in z)

  pub upto-more : (j : ℕ) → Upto kinds bs j → Asked kinds bs j → Upto kinds bs (j + 1)
  upto-more j u a k m = at (ltb k j) refl
    where
      at : (t : Bool) → ltb k j ≡ t → Asked kinds bs k
      at true q = u k (ltb-true k j q)
      at false q = let here : k ≡ j = le_antisymm (omega arith) (ltb-false k j q) in subst (λ (n : ℕ). Asked kinds bs n) (sym here) a

  pub upto_all : (j : ℕ) → length kinds ≤ j → length bs ≡ slot * length kinds → Bytes bs → Upto kinds bs j → Judged kinds bs true
  upto_all j l long b u ks e =
      yes
      (formed-given ks bs (long ∙ ap (λ (n : ℕ). slot * n) (counted ks e)) b
      (λ k m. let inside : k < length kinds = omega (arith, counted ks e) in
      subst (λ (n : ℕ). Zeros n (slot * k + slot) bs) (same ks e k inside) (u k (omega arith))))

  pub not-formed : (j : ℕ) → j < length kinds → (Asked kinds bs j → ⊥) → Judged kinds bs false
  not-formed j l never ks e =
      no (λ g. never (subst (λ (n : ℕ). Zeros n (slot * j + slot) bs) (sym (same ks e j l)) (given-formed g.1 j (omega (arith, counted ks e)))))

  -- as many bytes as the kinds take
  pub not-long : (length bs ≡ slot * length kinds → ⊥) → Judged kinds bs false
  not-long never ks e = no (λ g. never (slots-long g.1 ∙ ap (λ (n : ℕ). slot * n) (sym (counted ks e))))
