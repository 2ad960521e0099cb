-- A version's row of a first byte is the latest's, or not assigned where the version has not the byte yet.
use Prim.Native.Nat.{ℕ, ◌≤◌, ◌<◌}
use Prim.Native.String.{String}
use mathlib.Core.Path.{◌≡◌, refl, sym, ap, subst, ◌∙◌}
use mathlib.Core.Bool.{Bool, true, false, cond, ◌&&◌, ◌||◌}
use mathlib.Core.List.{List, [], ◌∷◌}
use mathlib.Core.Logic.{◌⊎◌, inl, inr, ⊎_elim, ◌↔◌}
use native.Mathlib.Nat.{eq-or-lt_of_le}
use native.Mathlib.Omega.{arith}
use lib.Dec.{T, eqb, leb, leb→le}
use lib.ListN.{get_or}
use mir.Facts.{and_yes, or_yes}
use borrow.Author.Tests.{le-leb}
use Rattle.opcode.specs.Table.{Control, Code, plain, control, vector, Row, carried, float, unassigned, vectors, vector_at, plain_lines, latest, known}
use Rattle.opcode.specs.Table.{look_up, plain_at, PREFIX, row_at}
use Rattle.opcode.specs.Number.{since_in, since_of, group_of}
use Rattle.opcode.proofs.Every.{below, below-or-past}
use Rattle.opcode.proofs.Rows.{vector-beyond}

abbrev Plains : Type 0
Plains = List (ℕ × String × ℕ × Code)

-- every line has come by the latest version
abbrev come : Plains → Bool
come [] = true
come (l ∷ ls) = leb l.2 latest && come ls

look-up-since : (ver b : ℕ) (ls : Plains) → T (come ls) → look_up ver b ls ≡ cond (leb (since_in b ls) ver) (look_up latest b ls) unassigned
look-up-since ver b [] t = by (leb 1 ver)
  where
    by : (u : Bool) → unassigned ≡ cond u unassigned unassigned
    by true = refl
    by false = refl
look-up-since ver b ((n, t, v, c) ∷ ls) all =
    by (eqb b n) (leb v latest) (and_yes (leb v latest) (come ls) all).0 (look-up-since ver b ls (and_yes (leb v latest) (come ls) all).1)
  where
    by : (u w : Bool) → T w → look_up ver b ls ≡ cond (leb (since_in b ls) ver) (look_up latest b ls) unassigned
        → cond u (cond (leb v ver) (carried c) unassigned) (look_up ver b ls)
        ≡ cond (leb (cond u v (since_in b ls)) ver) (cond u (cond w (carried c) unassigned) (look_up latest b ls)) unassigned
    by true true h rest = refl
    by true false h rest = absurd h
    by false w h rest = rest

plain-since : (ver b : ℕ) → plain_at ver b ≡ cond (leb (since_of b) ver) (plain_at latest b) unassigned
unfolding plain_at since_of
plain-since ver b = look-up-since ver b plain_lines tt

pub row-since : (ver b n : ℕ) → row_at ver b n ≡ cond (eqb b PREFIX) (vector_at n) (cond (leb (since_of b) ver) (plain_at latest b) unassigned)
row-since ver b n = ap (λ (r : Row). cond (eqb b PREFIX) (vector_at n) r) (plain-since ver b)

-- what a version carries the latest carries
pub row-latest : (ver b n : ℕ) {c : Code} → row_at ver b n ≡ carried c → row_at latest b n ≡ carried c
row-latest ver b n {c} e = by (eqb b PREFIX) (leb (since_of b) ver) (sym (row-since ver b n) ∙ e)
  where
    by : (t u : Bool) → cond t (vector_at n) (cond u (plain_at latest b) unassigned) ≡ carried c → cond t (vector_at n) (plain_at latest b) ≡ carried c
    by true u f = f
    by false true f = f
    by false false f = absurd (let z : ◌≡◌ {A = ℕ} 0 1 = cc in omega arith)

-- ---- what came with version 1 has a group before those of version 2

early : (b : ℕ) → b < 256 → group_of (plain_at latest b) < 23 → since_of b ≤ 1
unfolding plain_at since_of
early b l g =
    ⊎_elim
    (λ t. let no : ⊥ = omega (arith, leb→le 23 (group_of (plain_at latest b)) t) in absurd no)
    (leb→le (since_of b) 1)
    (or_yes (leb 23 (group_of (plain_at latest b))) (leb (since_of b) 1) (below (λ (k : ℕ). leb 23 (group_of (plain_at latest k)) || leb (since_of k) 1) 256 tt b l))

pub row-early : (ver b n : ℕ) → b < 256 → 1 ≤ ver → group_of (row_at latest b n) < 23 → row_at latest b n ≡ row_at ver b n
row-early ver b n l h g = by (eqb b PREFIX) g ∙ sym (row-since ver b n)
  where
    by : (t : Bool) → group_of (cond t (vector_at n) (plain_at latest b)) < 23
        → cond t (vector_at n) (plain_at latest b) ≡ cond t (vector_at n) (cond (leb (since_of b) ver) (plain_at latest b) unassigned)
    by true m = refl
    by false m = rw (le-leb (since_of b) ver (omega (arith, early b l m)))

-- a version that is known lies between the first and the latest
pub known-range : (ver : ℕ) → known ver ≡ true → (1 ≤ ver) × (ver ≤ latest)
known-range ver e =
    let both = and_yes (leb 1 ver) (leb ver latest) (subst T (sym e) tt) in
    (leb→le 1 ver both.0, leb→le ver latest both.1)

-- and there are two (01, "The strip file"; 02, C-13)
pub known-versions : (ver : ℕ) → (known ver ≡ true) ↔ ((ver ≡ 1) ⊎ (ver ≡ 2))
known-versions ver = (there, ⊎_elim (ap known) (ap known))
  where
    there : known ver ≡ true → (ver ≡ 1) ⊎ (ver ≡ 2)
    there e = let r = known-range ver e in ⊎_elim (λ f. inl (sym f)) (λ l. inr (omega (arith, r.1))) (eq-or-lt_of_le r.0)

-- ---- what a computed test says of every row of a version

abbrev all : (Row → Bool) → ℕ → Plains → Bool
all P ver [] = P unassigned
all P ver (l ∷ ls) = P (cond (leb l.2 ver) (carried l.3) unassigned) && all P ver ls

looked-up : (P : Row → Bool) (ver b : ℕ) (ls : Plains) → T (all P ver ls) → T (P (look_up ver b ls))
looked-up P ver b [] t = t
looked-up P ver b (l ∷ ls) t =
    let r = cond (leb l.2 ver) (carried l.3) unassigned in
    let both = and_yes (P r) (all P ver ls) t in
    at (eqb b l.0) r both.0 (looked-up P ver b ls both.1)
  where
    at : (u : Bool) (r : Row) → T (P r) → T (P (look_up ver b ls)) → T (P (cond u r (look_up ver b ls)))
    at true r here rest = here
    at false r here rest = rest

each-plain : (P : Row → Bool) (ver b : ℕ) → T (all P ver plain_lines) → T (P (plain_at ver b))
unfolding plain_at
each-plain P ver b t = looked-up P ver b plain_lines t

-- of the latest version, and so of all
pub every-plain : (P : Row → Bool) → T (all P latest plain_lines) → T (P unassigned) → (ver b : ℕ) → T (P (plain_at ver b))
every-plain P t none ver b = subst (λ (r : Row). T (P r)) (sym (plain-since ver b)) (by (leb (since_of b) ver))
  where
    by : (u : Bool) → T (P (cond u (plain_at latest b) unassigned))
    by true = each-plain P latest b t
    by false = none

-- ---- version 1 has no blocks and no branches

abbrev straight : Row → Bool
straight (carried (plain p)) = true
straight (carried (control k)) = false
straight (carried (vector o)) = true
straight float = true
straight unassigned = true

straight-vectors : (n : ℕ) → T (straight (vector_at n))
unfolding vector_at vectors
straight-vectors n =
    ⊎_elim (below (λ (k : ℕ). straight (get_or vectors k unassigned)) 256 tt n) (λ l. subst (λ (x : Row). T (straight x)) (sym (vector-beyond n l)) tt)
    (below-or-past 256 n)

pub one-straight : (b n : ℕ) (k : Control) → row_at 1 b n ≡ carried (control k) → ⊥
one-straight b n k e = subst (λ (x : Row). T (straight x)) e (by (eqb b PREFIX))
  where
    by : (t : Bool) → T (straight (cond t (vector_at n) (plain_at 1 b)))
    by true = straight-vectors n
    by false = each-plain straight 1 b tt
