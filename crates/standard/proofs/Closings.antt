-- The function that looks for a block's `end` finds the one that closes it and no other, and finds none exactly where nothing closes it.
use Prim.Native.Nat.{ℕ, zero, suc, ◌+◌, ◌-◌, ◌≤◌}
use mathlib.Core.Path.{◌≡◌, refl, ap, sym, ◌∙◌, subst}
use mathlib.Core.Bool.{Bool, true, false, cond}
use mathlib.Core.List.{List}
use mathlib.Core.Logic.{◌↔◌}
use mathlib.Core.Option.{Option, none, some}
use native.Mathlib.Omega.{arith}
use lib.Dec.{eqb}
use lib.ListN.{length}
use borrow.Author.Tests.{eqb-true}
use Rattle.card.specs.Card.{DONE}
use Rattle.leb128.specs.Bytes.{bytes}
use Rattle.opcode.specs.Table.{Code, Row, carried, float, unassigned}
use Rattle.instr.specs.declared.Instr.{Instr}
use Rattle.instr.specs.Layout.{row_in}
use Rattle.instr.specs.Decode.{decode_at}
use Rattle.instr.proofs.Ranges.{stands-some, stands-inside}
use Rattle.instr.proofs.Stands.{decoded-stands}
use Rattle.rules.specs.Strip.{Reads}
use Rattle.standard.specs.Closing.{Role, opener, closer, neither, role, Closes, closed, goes_on, over_block, close_role, close_row, close_after, close_within, close}
use Rattle.standard.proofs.Steps.{reads-decoded}

module _ (ver : ℕ) (s : List ℕ) where
  -- ---- what closes it is found

  one-turn : {p n : ℕ} {i : Instr} {c : Code} → Reads ver s p i c n → (k d : ℕ) → close_within (suc k) ver s d p ≡ close_role (role c) d (p + n) (close_within k ver s)
  unfolding close_within
  one-turn {p} {n} {i} r k d =
      ap (λ x. close_after ver d p x (close_within k ver s)) (reads-decoded r) ∙ ap (λ (x : Row). close_row x d (p + n) (close_within k ver s)) r.does

  turn-as : {p n : ℕ} {i : Instr} {c : Code} (x : Role) → Reads ver s p i c n → role c ≡ x → (k d : ℕ)
      → close_within (suc k) ver s d p ≡ close_role x d (p + n) (close_within k ver s)
  turn-as {p} {n} x r e k d = one-turn r k d ∙ ap (λ (y : Role). close_role y d (p + n) (close_within k ver s)) e

  -- after t instructions it is closed
  record Turns (p q : ℕ) : Type 0 where
    t : ℕ
    few : t + p ≤ q
    deeper : (k d : ℕ) → close_within (t + k) ver s (suc d) p ≡ close_within k ver s d q
    last : (k : ℕ) → close_within (t + k) ver s zero p ≡ some q

  -- so many instructions at most, written otherwise
  same_count : {a b : ℕ} {x : Option ℕ} (d p : ℕ) → a ≡ b → close_within b ver s d p ≡ x → close_within a ver s d p ≡ x
  same_count d p e f = ap (λ (n : ℕ). close_within n ver s d p) e ∙ f

  turns : {p q : ℕ} → Closes ver s p q → Turns p q
  turns (closed {p} {n} r e) =
      let one : (k : ℕ) → 1 + k ≡ suc k = λ k. omega arith in
      record {
        t = 1;
        few = omega (arith, stands-some r.stands);
        deeper = λ k d. same_count (suc d) p (one k) (turn-as closer r e k (suc d));
        last = λ k. same_count zero p (one k) (turn-as closer r e k zero);
      }
  turns (goes_on {p} {q} {n} r e c) =
      let u = turns c in
      let more : (k : ℕ) → suc u.t + k ≡ suc (u.t + k) = λ k. omega arith in
      record {
        t = suc u.t;
        few = omega (arith, u.few, stands-some r.stands);
        deeper = λ k d. same_count (suc d) p (more k) (turn-as neither r e (u.t + k) (suc d) ∙ u.deeper k d);
        last = λ k. same_count zero p (more k) (turn-as neither r e (u.t + k) zero ∙ u.last k);
      }
  turns (over_block {p} {q} {m} {n} r e c c') =
      let u = turns c in
      let w = turns c' in
      let more : (k : ℕ) → suc (u.t + w.t) + k ≡ suc (u.t + (w.t + k)) = λ k. omega arith in
      record {
        t = suc (u.t + w.t);
        few = omega (arith, u.few, w.few, stands-some r.stands);
        deeper = λ k d. same_count (suc d) p (more k) (turn-as opener r e (u.t + (w.t + k)) (suc d) ∙ u.deeper (w.t + k) (suc d) ∙ w.deeper k d);
        last = λ k. same_count zero p (more k) (turn-as opener r e (u.t + (w.t + k)) zero ∙ u.deeper (w.t + k) zero ∙ w.last k);
      }

  pub closes-inside : {p q : ℕ} → Closes ver s p q → q ≤ length s
  closes-inside (closed r e) = stands-inside r.stands
  closes-inside (goes_on r e c) = closes-inside c
  closes-inside (over_block r e c c') = closes-inside c'

  pub closes-found : {p q : ℕ} → Closes ver s p q → close ver s p ≡ some q
  closes-found {p} {q} c =
      let u = turns c in
      let enough : length s ≡ u.t + (length s - u.t) = omega (arith, u.few, closes-inside c) in
      ap (λ (x : ℕ). close_within x ver s zero p) enough ∙ u.last (length s - u.t)

  -- ---- what is found closes it

  -- d blocks inside it are open
  data Deep : ℕ → ℕ → ℕ → Type 0 where
    this : {p q : ℕ} → Closes ver s p q → Deep zero p q
    inner : {d p m q : ℕ} → Closes ver s p m → Deep d m q → Deep (suc d) p q

  this-one : {p q : ℕ} → Deep zero p q → Closes ver s p q
  this-one (this c) = c

  before : {d p q n : ℕ} {i : Instr} {c : Code} → Reads ver s p i c n → role c ≡ neither → Deep d (p + n) q → Deep d p q
  before r e (this c) = this (goes_on r e c)
  before r e (inner c w) = inner (goes_on r e c) w

  opening : {d p q n : ℕ} {i : Instr} {c : Code} → Reads ver s p i c n → role c ≡ opener → Deep (suc d) (p + n) q → Deep d p q
  opening r e (inner c (this c')) = this (over_block r e c c')
  opening r e (inner c (inner c' w)) = inner (over_block r e c c') w

  closing : {p q n : ℕ} {i : Instr} {c : Code} → Reads ver s p i c n → role c ≡ closer → (d : ℕ) → (f : ℕ → ℕ → Option ℕ)
      → ((d' : ℕ) → f d' (p + n) ≡ some q → Deep d' (p + n) q) → close_role closer d (p + n) f ≡ some q → Deep d p q
  closing {p} {q} {n} r e zero f more g = let same : p + n ≡ q = cc in subst (λ (x : ℕ). Deep zero p x) same (this (closed r e))
  closing r e (suc d) f more g = inner (closed r e) (more d g)

  module _ (b : bytes s) where
    module _ (k d p q : ℕ) (more : (d p q : ℕ) → close_within k ver s d p ≡ some q → Deep d p q) where
      abbrev len : ℕ
      len = (decode_at ver s p).len

      abbrev on : ℕ → ℕ → Option ℕ
      on = close_within k ver s

      roled : (c : Code) → Reads ver s p (decode_at ver s p).instr c len → (x : Role) → role c ≡ x → close_role x d (p + len) on ≡ some q → Deep d p q
      roled c r opener f g = opening r f (more (suc d) (p + len) q g)
      roled c r closer f g = closing r f d on (λ d'. more d' (p + len) q) g
      roled c r neither f g = before r f (more d (p + len) q g)

      rowed : (x : Row) → (decode_at ver s p).code ≡ DONE → row_in ver (decode_at ver s p).instr ≡ x → close_row x d (p + len) on ≡ some q → Deep d p q
      rowed (carried c) done f g = roled c (record { stands = decoded-stands s b ver p done; does = f }) (role c) refl g
      rowed float done f g = absurd (let z : ◌≡◌ {A = ℕ} 0 1 = cc (g) in omega arith)
      rowed unassigned done f g = absurd (let z : ◌≡◌ {A = ℕ} 0 1 = cc (g) in omega arith)

      at : (t : Bool) → eqb (decode_at ver s p).code DONE ≡ t → cond t (close_row (row_in ver (decode_at ver s p).instr) d (p + len) on) none ≡ some q → Deep d p q
      at true f g = rowed (row_in ver (decode_at ver s p).instr) (eqb-true (decode_at ver s p).code DONE f) refl g
      at false f g = absurd (let z : ◌≡◌ {A = ℕ} 0 1 = cc (g) in omega arith)

    deep : (k d p q : ℕ) → close_within k ver s d p ≡ some q → Deep d p q
    unfolding close_within
    deep zero d p q e = absurd (let z : ◌≡◌ {A = ℕ} 0 1 = cc in omega arith)
    deep (suc k) d p q e = at k d p q (deep k) (eqb (decode_at ver s p).code DONE) refl e

    pub found-closes : {p q : ℕ} → close ver s p ≡ some q → Closes ver s p q
    found-closes {p} {q} e = this-one (deep (length s) zero p q e)

    -- ---- THE FUNCTION AND THE RELATION AGREE

    pub close-exact : (p q : ℕ) → (close ver s p ≡ some q) ↔ Closes ver s p q
    close-exact p q = (found-closes, closes-found)

    pub closes-once : {p q q' : ℕ} → Closes ver s p q → Closes ver s p q' → q ≡ q'
    closes-once {p} c c' = let e = sym (closes-found c) ∙ closes-found c' in cc (e)

    -- also where there is no answer
    pub close-none : (p : ℕ) → (close ver s p ≡ none) ↔ ((q : ℕ) → Closes ver s p q → ⊥)
    close-none p = (λ e q c. differ (sym e ∙ closes-found c), λ never. by (close ver s p) refl never)
      where
        differ : {q : ℕ} → none ≡ some q → ⊥
        differ e = let z : ◌≡◌ {A = ℕ} 0 1 = cc in omega arith

        by : (o : Option ℕ) → close ver s p ≡ o → ((q : ℕ) → Closes ver s p q → ⊥) → o ≡ none
        by none e never = refl
        by (some q) e never = absurd (never q (found-closes e))
