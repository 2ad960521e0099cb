-- A line tells its instruction: names are different, and the numbers shown after a name tell its immediates.
use Prim.Native.Nat.{ℕ}
use mathlib.Core.Path.{◌≡◌, refl, sym, ap, ap₂, ◌∙◌}
use mathlib.Core.Bool.{Bool, true, false, cond}
use mathlib.Core.List.{List, [], ◌∷◌, map}
use native.Mathlib.Omega.{arith}
use borrow.Author.Tests.{eqb-true}
use lib.Dec.{eqb}
use lib.IntN.{ℤ}
use Rattle.text.specs.Decimal.{spelled}
use Rattle.text.proofs.Decimals.{spelled_back}
use Rattle.opcode.specs.Table.{Code, Row, carried, latest, PREFIX, row_at}
use Rattle.opcode.proofs.Versions.{row-latest}
use Rattle.opcode.specs.Immediate as Immediate
use Rattle.mnemonic.proofs.Names.{name-once}
use Rattle.instr.specs.declared.Instr.{Instr}
use Rattle.instr.specs.Layout.{immediate_fields, fields_of, row_in, Head, head, head_of, kept, kept_of, bare}
use Rattle.rules.specs.Strip.{Reads}
use Rattle.listing.specs.Line.{mnemonic, numbers, immediates}
use Rattle.listing.proofs.Fields.{fields-once, class-alike, kept-once}

-- what the spelled numbers are
pub spelled-all : (xs ys : List ℤ) → map spelled xs ≡ map spelled ys → xs ≡ ys
spelled-all [] [] e = refl
spelled-all [] (y ∷ ys) e = absurd (let z : ◌≡◌ {A = ℕ} 0 1 = cc in omega arith)
spelled-all (x ∷ xs) [] e = absurd (let z : ◌≡◌ {A = ℕ} 0 1 = cc in omega arith)
spelled-all (x ∷ xs) (y ∷ ys) e =
    let first : spelled x ≡ spelled y = cc in
    let rest : map spelled xs ≡ map spelled ys = cc in
    ap₂ (λ (z : ℤ) (zs : List ℤ). z ∷ zs) (spelled_back first) (spelled-all xs ys rest)

-- the same first byte, and after FD the same number: the same opcode
module _ (a m b n : ℕ) (e : a ≡ b) (f : a ≡ PREFIX → m ≡ n) where
  numbered : (t : Bool) → eqb a PREFIX ≡ t → cond t m 0 ≡ cond t n 0
  numbered true q = f (eqb-true a PREFIX q)
  numbered false q = refl

  pub same_head : head a (cond (eqb a PREFIX) m 0) ≡ head b (cond (eqb b PREFIX) n 0)
  same_head = ap (head a) (numbered (eqb a PREFIX) refl) ∙ ap (λ (x : ℕ). head x (cond (eqb x PREFIX) n 0)) e

  rowed : (v : ℕ) (t : Bool) → eqb a PREFIX ≡ t → row_at v a m ≡ row_at v a n
  rowed v true q = ap (row_at v a) (f (eqb-true a PREFIX q))
  rowed v false q = rw q refl

  pub same_row : (v : ℕ) → row_at v a m ≡ row_at v b n
  same_row v = rowed v (eqb a PREFIX) refl ∙ ap (λ (x : ℕ). row_at v x n) e

-- of a row that is carried
module _ (v : ℕ) (c : Code) (i : Instr) (e : row_in v i ≡ carried c) where
  abbrev class : Immediate.Immediates
  class = Immediate.immediates c

  pub its-fields : fields_of (row_in latest i) i ≡ immediate_fields class i
  unfolding fields_of
  its-fields = ap (λ (r : Row). fields_of r i) (row-latest v i.first i.number e)

  pub its-bare : bare v i ≡ kept class (head_of i) i
  unfolding kept_of
  its-bare = ap (λ (r : Row). kept_of r (head_of i) i) e

-- two that stand in strips of one version
pub one-instr : {v : ℕ} {s t : List ℕ} {p q n m : ℕ} {i j : Instr} {c d : Code} → Reads v s p i c n → Reads v t q j d m → mnemonic i ≡ mnemonic j
    → immediates i ≡ immediates j → i ≡ j
unfolding immediates
one-instr {v} {i = i} {j = j} {c = c} {d = d} r w name shown =
    let a = r.stands in
    let b = w.stands in
    let opcode =
    name-once i.first i.number j.first j.number a.typed.first b.typed.first (row-latest v i.first i.number r.does)
    (row-latest v j.first j.number w.does) name in
    let row : row_in v j ≡ carried c = sym (same_row i.first i.number j.first j.number opcode.0 opcode.1 v) ∙ r.does in
    let k = Immediate.immediates c in
    let fields : immediate_fields k i ≡ immediate_fields k j =
    fields-once (immediate_fields k i) (immediate_fields k j) (class-alike i j a.typed b.typed k)
    (sym (ap numbers (its-fields v c i r.does)) ∙ shown ∙ ap numbers (its-fields v c j row)) in
    sym a.lacking ∙ its-bare v c i r.does
    ∙ kept-once k (head_of i) i j fields
    ∙ ap (λ (h : Head). kept k h j) (same_head i.first i.number j.first j.number opcode.0 opcode.1)
    ∙ sym (its-bare v c j row) ∙ b.lacking
