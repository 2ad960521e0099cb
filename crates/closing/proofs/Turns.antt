-- The search from one instruction to the next.
use Prim.Native.Nat.{ℕ, zero, suc, ◌-◌, ◌≤◌, ◌<◌}
use mathlib.Core.Path.{◌≡◌, refl, ap, sym, ◌∙◌}
use mathlib.Core.Bool.{Bool, true, false, cond, ◌||◌}
use mathlib.Core.List.{List}
use native.Mathlib.Omega.{arith}
use lib.Dec.{ltb, eqb}
use lib.ListN.{length}
use borrow.Author.Tests.{lt-ltb, le-ltb, ltb-true}
use Rattle.leb128.specs.Bytes.{bytes}
use Rattle.opcode.specs.Number.{group_of}
use Rattle.standard.specs.Closing.{Role, opener, closer, neither}
use Rattle.closing.specs.Search.{passed_at, role_of, on_from, end_by, end_within, end_of}
use Rattle.closing.proofs.Passes.{onward}
use Rattle.closing.proofs.Roles.{is-closer, is-opener, is-neither}

-- two searches that agree from here on
same_by : (x : Role) (room p q : ℕ) (f g : ℕ → ℕ → ℕ) → p < q → ((r m : ℕ) → p < m → f r m ≡ g r m) → end_by x room q f ≡ end_by x room q g
same_by closer room p q f g l h = refl
same_by neither room p q f g l h = h room q l
same_by opener zero p q f g l h = refl
same_by opener (suc room) p q f g l h = ap (λ (m : ℕ). on_from q m (f (suc room))) (h room q l) ∙ by (ltb q (g room q)) refl
  where
    by : (t : Bool) → ltb q (g room q) ≡ t → cond t (f (suc room) (g room q)) 0 ≡ cond t (g (suc room) (g room q)) 0
    by true e = h (suc room) (g room q) (omega (arith, l, ltb-true q (g room q) e))
    by false e = refl

module _ (s : List ℕ) where
  none-past : (k room p : ℕ) → length s ≤ p → end_within k s room p ≡ 0
  unfolding end_within
  none-past zero room p l = refl
  none-past (suc k) room p l =
      ap (λ (t : Bool). cond t (end_by (role_of (passed_at s p).row) room (passed_at s p).next (end_within k s)) 0) (le-ltb p (length s) l)

  pub past-last : (room p : ℕ) → length s ≤ p → end_of s room p ≡ 0
  past-last room p l = none-past (length s) room p l

  module _ (b : bytes s) where
    -- as many instructions as bytes are enough
    enough : (k j room p : ℕ) → length s - p ≤ k → length s - p ≤ j → end_within k s room p ≡ end_within j s room p
    unfolding end_within
    enough zero j room p u w = sym (none-past j room p (omega arith))
    enough (suc k) zero room p u w = none-past (suc k) room p (omega arith)
    enough (suc k) (suc j) room p u w = by (ltb p (length s)) refl (enough k j)
      where
        by : (t : Bool) → ltb p (length s) ≡ t → ((r m : ℕ) → length s - m ≤ k → length s - m ≤ j → end_within k s r m ≡ end_within j s r m)
            → cond t (end_by (role_of (passed_at s p).row) room (passed_at s p).next (end_within k s)) 0
            ≡ cond t (end_by (role_of (passed_at s p).row) room (passed_at s p).next (end_within j s)) 0
        by true e more =
            let l = ltb-true p (length s) e in
            same_by (role_of (passed_at s p).row) room p (passed_at s p).next (end_within k s) (end_within j s) (onward s b p l).0
            (λ r m h. more r m (omega (arith, u, l, h)) (omega (arith, w, l, h)))
        by false e more = refl

    -- ONE TURN
    pub turns : (room p : ℕ) → p < length s → end_of s room p ≡ end_by (role_of (passed_at s p).row) room (passed_at s p).next (end_of s)
    unfolding end_within
    turns room p l = by (length s) refl
      where
        by : (n : ℕ) → length s ≡ n → end_within n s room p ≡ end_by (role_of (passed_at s p).row) room (passed_at s p).next (end_of s)
        by zero e = absurd (omega (arith, l, e))
        by (suc k) e =
            ap (λ (t : Bool). cond t (end_by (role_of (passed_at s p).row) room (passed_at s p).next (end_within k s)) 0) (lt-ltb p (length s) l)
            ∙ same_by (role_of (passed_at s p).row) room p (passed_at s p).next (end_within k s) (end_of s) (onward s b p l).0
            (λ r m h. enough k (length s) r m (omega (arith, e, h)) (omega (arith, h)))

-- as the code goes on
module _ (s : List ℕ) (b : bytes s) (room p : ℕ) (l : p < length s) {g q : ℕ} (group : g ≡ group_of (passed_at s p).row) (next : q ≡ (passed_at s p).next) where
  by-role : {x : Role} → role_of (passed_at s p).row ≡ x → end_of s room p ≡ end_by x room q (end_of s)
  by-role {x} e =
      turns s b room p l ∙ ap (λ (y : Role). end_by y room (passed_at s p).next (end_of s)) e ∙ ap (λ (m : ℕ). end_by x room m (end_of s)) (sym next)

  pub goes_on : p < q
  goes_on = omega (arith, (onward s b p l).0, next)

  pub at-end : g ≡ 0 → end_of s room p ≡ q
  at-end e = by-role (is-closer (passed_at s p).row (sym group) e)

  module _ (d : g ≡ 0 → ⊥) where
    pub at_other : (eqb g 25 || eqb g 26) ≡ false → end_of s room p ≡ end_of s room q
    at_other e = by-role (is-neither (passed_at s p).row (sym group) d e)

    module _ (e : (eqb g 25 || eqb g 26) ≡ true) where
      block : end_of s room p ≡ end_by opener room q (end_of s)
      block = by-role (is-opener (passed_at s p).row (sym group) d e)

      pub no_room : room ≡ 0 → end_of s room p ≡ 0
      no_room z = block ∙ ap (λ (n : ℕ). end_by opener n q (end_of s)) z

      module _ (some : room ≡ 0 → ⊥) {m : ℕ} (inner : m ≡ end_of s (room - 1) q) where
        inside : end_of s room p ≡ on_from q m (end_of s room)
        inside = block ∙ by room some inner
          where
            by : (n : ℕ) → (n ≡ 0 → ⊥) → m ≡ end_of s (n - 1) q → end_by opener n q (end_of s) ≡ on_from q m (end_of s n)
            by zero d i = absurd (d refl)
            by (suc n) d i = let e : suc n - 1 ≡ n = omega arith in ap (λ (x : ℕ). on_from q x (end_of s (suc n))) (sym (i ∙ ap (λ (k : ℕ). end_of s k q) e))

        pub not-closed : m ≤ q → end_of s room p ≡ 0
        not-closed k = inside ∙ ap (λ (t : Bool). cond t (end_of s room m) 0) (le-ltb q m k)

        pub past-block : q < m → end_of s room p ≡ end_of s room m
        past-block k = inside ∙ ap (λ (t : Bool). cond t (end_of s room m) 0) (lt-ltb q m k)
