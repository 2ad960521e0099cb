-- Names tell the instructions apart: what is carried has a name, of letters alone, and no other has it.
use Prim.Native.Nat.{ℕ, suc, ◌+◌, ◌-◌, ◌≤◌, ◌<◌}
use Prim.Native.String.{String}
use mathlib.Core.Path.{◌≡◌, sym, ap, subst, ◌∙◌}
use mathlib.Core.Bool.{Bool, true, false, cond, ◌&&◌}
use mathlib.Core.List.{List, [], ◌∷◌}
use mathlib.Core.Logic.{⊎_elim}
use native.Mathlib.Omega.{arith}
use lib.Dec.{T, eqb, ltb, eqb→eq, ltb→lt, lit≤}
use lib.ListN.{length}
use mir.Facts.{and_yes}
use borrow.Author.Tests.{eq-eqb, ne_eqb, lt-ltb, le-ltb}
use Rattle.opcode.specs.Ascii.{ascii}
use Rattle.opcode.specs.Table.{Code, Row, carried, float, unassigned, Line, name, lines, vectors, vector_at, vector_name, plain_lines, latest, plain_at, plain_name}
use Rattle.opcode.specs.Table.{PREFIX, row_at, name_at}
use Rattle.opcode.specs.Number.{id_of, row_of, name_of}
use Rattle.opcode.specs.Lists.{up_from}
use Rattle.opcode.proofs.Every.{every, below, below-or-past}
use Rattle.opcode.proofs.Rows.{row-beyond}
use Rattle.opcode.proofs.Id.{Way, byte, number, beyond, way, row-of-id, id-once}
use Rattle.mnemonic.specs.Letters.{Letters}
use Rattle.mnemonic.proofs.Ids.{vector-nameless, short, all-letters}

-- ---- the name of an id is the name of its first byte and number

name-plain : (id : ℕ) → id < 256 → name_of id ≡ ascii (plain_name id)
unfolding name_of
name-plain id l = simp (lt-ltb id 256 l)

name-vector : (n : ℕ) → name_of (256 + n) ≡ ascii (vector_name n)
unfolding name_of
name-vector n =
    let past : 256 ≤ 256 + n = omega arith in
    let same : 256 + n - 256 ≡ n = omega arith in
    rw (le-ltb (256 + n) 256 past, same)

pub name-of-id : (first n : ℕ) → first < 256 → name_of (id_of first n) ≡ name_at first n
name-of-id first n l = by (way first n)
  where
    by : Way first n → name_of (id_of first n) ≡ name_at first n
    by (byte d i r) = rw (i, ne_eqb first PREFIX d) (name-plain first l)
    by (number e b i r) = rw (i, eq-eqb first PREFIX e) (name-vector n)
    by (beyond e b i r) =
        rw (i, eq-eqb first PREFIX e) (name-vector 256 ∙ ap ascii (vector-nameless 256 (lit≤ tt) ∙ sym (vector-nameless n b)))

-- ---- the inverse, found by looking a name up

abbrev same : List ℕ → List ℕ → Bool
same [] [] = true
same [] (b ∷ n) = false
same (a ∷ m) [] = false
same (a ∷ m) (b ∷ n) = eqb a b && same m n

abbrev find : List ℕ → ℕ → List Line → ℕ
find n k [] = k
find n k (l ∷ ls) = cond (same n (ascii (name l))) k (find n (suc k) ls)

abbrev find_plain : List ℕ → List (ℕ × String × ℕ × Code) → ℕ
find_plain n [] = 256 + find n 0 lines
find_plain n (l ∷ ls) = cond (same n (ascii l.1)) l.0 (find_plain n ls)

unfoldable id_of_name : List ℕ → ℕ
id_of_name n = find_plain n plain_lines

abbrev back : ℕ → Row → List ℕ → Bool
back id (carried c) n = eqb (id_of_name n) id && ltb 0 (length n)
back id float n = true
back id unassigned n = true

all_back : T (every (λ id. back id (row_of id) (name_of id)) (up_from 0 512))
unfolding row_of plain_at vector_at vectors name_of plain_name vector_name id_of_name
all_back = tt

at-id : (id : ℕ) {c : Code} → row_of id ≡ carried c → T (eqb (id_of_name (name_of id)) id) × T (ltb 0 (length (name_of id)))
at-id id {c} e =
    ⊎_elim
    (λ l. and_yes (eqb (id_of_name (name_of id)) id) (ltb 0 (length (name_of id)))
    (subst (λ (r : Row). T (back id r (name_of id))) e (below (λ k. back k (row_of k) (name_of k)) 512 all_back id l)))
    (λ h. absurd (past h))
    (below-or-past 512 id)
  where
    past : 512 ≤ id → ⊥
    past h = let z : ◌≡◌ {A = ℕ} 0 1 = cc (row-beyond id h) in omega arith

name_back : (id : ℕ) {c : Code} → row_of id ≡ carried c → id_of_name (name_of id) ≡ id
name_back id e = eqb→eq (id_of_name (name_of id)) id (at-id id e).0

-- ---- for callers

pub name-once : (a m b n : ℕ) {c d : Code} → a < 256 → b < 256 → row_at latest a m ≡ carried c → row_at latest b n ≡ carried d → name_at a m ≡ name_at b n
    → (a ≡ b) × (a ≡ PREFIX → m ≡ n)
name-once a m b n la lb p q e =
    id-once a m b n la lb p
    (sym (name_back (id_of a m) (row-of-id a m la ∙ p))
    ∙ ap id_of_name (name-of-id a m la ∙ e ∙ sym (name-of-id b n lb))
    ∙ name_back (id_of b n) (row-of-id b n lb ∙ q))

module _ (first n : ℕ) (l : first < 256) where
  pub name-some : {c : Code} → row_at latest first n ≡ carried c → 0 < length (name_at first n)
  name-some e = rw (← name-of-id first n l) (ltb→lt 0 (length (name_of (id_of first n))) (at-id (id_of first n) (row-of-id first n l ∙ e)).1)

  pub name-short : length (name_at first n) ≤ 32
  name-short = subst (λ (t : List ℕ). length t ≤ 32) (name-of-id first n l) (short (id_of first n))

  pub name-letters : Letters (name_at first n)
  name-letters = subst Letters (name-of-id first n l) (all-letters (id_of first n))
