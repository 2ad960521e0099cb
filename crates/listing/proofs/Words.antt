-- The words of a line hold neither a blank nor a line's end nor a bracket, so they are told apart.
use Prim.Native.Nat.{ℕ, ◌≤◌, ◌<◌}
use mathlib.Core.Path.{◌≡◌, refl, sym, ◌∙◌}
use mathlib.Core.List.{List, [], ◌∷◌, ◌++◌, map, append_assoc}
use mathlib.Core.Logic.{◌⊎◌, inl, inr, ⊎_elim}
use native.Mathlib.Omega.{arith}
use lib.IntN.{ℤ, pos}
use Rattle.text.specs.Decimal.{decimal, spelled}
use Rattle.text.specs.Words.{blank, newline, joined, Without, AllWithout}
use Rattle.text.proofs.Decimals.{spelled-without}
use Rattle.text.proofs.Words.{every_append, cut-once, joined_once, joined-without}
use Rattle.opcode.specs.Kind.{Kind, i32, i64, v128, kind_name}
use Rattle.instr.specs.declared.Instr.{Instr}
use Rattle.rules.specs.Strip.{Reads}
use Rattle.opcode.specs.Table.{Code}
use Rattle.mnemonic.specs.Letters.{Letter, Letters}
use Rattle.mnemonic.proofs.Letters.{are-letters}
use Rattle.mnemonic.proofs.Names.{name-letters}
use Rattle.listing.specs.Line.{bracketed, mnemonic, immediates}
use Rattle.listing.proofs.Spellings.{spelled-all}
use Rattle.listing.proofs.Asides.{unplaced}

-- a byte that parts words, lines or the stack from the rest
abbrev Parts : ℕ → Type 0
Parts b = (b < 45) ⊎ (b ≡ 0x5D)

letter-no : {b x : ℕ} → Parts b → Letter x → x ≡ b → ⊥
letter-no (inl l) t e = omega (arith, t.low)
letter-no (inr f) t e = t.no_closing (e ∙ f)

letters-without : {b : ℕ} → Parts b → (xs : List ℕ) → Letters xs → Without b xs
letters-without p [] t = tt
letters-without p (x ∷ xs) t = (letter-no p t.0, letters-without p xs t.1)

digit-no : {b : ℕ} → Parts b → (48 ≤ b) × (b ≤ 57) → ⊥
digit-no (inl l) d = omega arith
digit-no (inr e) d = omega arith

number-without : {b : ℕ} → Parts b → (x : ℤ) → Without b (spelled x)
number-without {b} p x = spelled-without b (digit-no p) (λ e. ⊎_elim (λ l. omega arith) (λ f. omega arith) p) x

pub place-without : (n : ℕ) → Without blank (decimal n)
unfolding spelled
place-without n = number-without (inl (omega arith)) (pos n)

numbers-without : {b : ℕ} → Parts b → (xs : List ℤ) → AllWithout b (map spelled xs)
numbers-without p [] = tt
numbers-without p (x ∷ xs) = (number-without p x, numbers-without p xs)

kind-letters : (k : Kind) → Letters (kind_name k)
kind-letters i32 = are-letters (kind_name i32) tt
kind-letters i64 = are-letters (kind_name i64) tt
kind-letters v128 = are-letters (kind_name v128) tt

kinds-without : {b : ℕ} → Parts b → (κs : List Kind) → AllWithout b (map kind_name κs)
kinds-without p [] = tt
kinds-without p (k ∷ κs) = (letters-without p (kind_name k) (kind-letters k), kinds-without p κs)

abbrev inner : List Kind → List ℕ
inner κs = joined (map kind_name κs)

-- the mnemonic and the numbers after it
abbrev told : Instr → List ℕ
told i = joined (mnemonic i ∷ map spelled (immediates i))

module _ {v : ℕ} {s : List ℕ} {p n : ℕ} {i : Instr} {c : Code} (r : Reads v s p i c n) where
  told-words : {b : ℕ} → Parts b → AllWithout b (mnemonic i ∷ map spelled (immediates i))
  told-words q = (letters-without q (mnemonic i) (name-letters i.first i.number r.stands.typed.first), numbers-without q (immediates i))

  pub no-newline : (κs : List Kind) → Without newline (unplaced κs i)
  unfolding bracketed
  no-newline κs =
      let q : Parts newline = inl (omega arith) in
      joined-without newline (λ e. omega arith) (bracketed κs ∷ mnemonic i ∷ map spelled (immediates i)) (
        (
          λ e. omega arith,
          every_append (λ x. x ≡ newline → ⊥) (inner κs) (0x5D ∷ []) (joined-without newline (λ e. omega arith) (map kind_name κs) (kinds-without q κs))
              (λ e. omega arith, tt),
        ),
        told-words q,
      )

-- the kinds end at the bracket, and the words after it are told apart by blanks
split : (κs : List Kind) (i : Instr) → unplaced κs i ≡ 0x5B ∷ (inner κs ++ 0x5D ∷ (blank ∷ told i))
unfolding joined bracketed
split κs i = simp append_assoc

module _ {v u : ℕ} {s t : List ℕ} {p q n m : ℕ} {i j : Instr} {c d : Code} (r : Reads v s p i c n) (w : Reads u t q j d m) where
  pub told-once : (κs λs : List Kind) → unplaced κs i ≡ unplaced λs j → (mnemonic i ≡ mnemonic j) × (immediates i ≡ immediates j)
  told-once κs λs e =
      let whole : 0x5B ∷ (inner κs ++ 0x5D ∷ (blank ∷ told i)) ≡ 0x5B ∷ (inner λs ++ 0x5D ∷ (blank ∷ told j)) = sym (split κs i) ∙ e ∙ split λs j in
      let cut : inner κs ++ 0x5D ∷ (blank ∷ told i) ≡ inner λs ++ 0x5D ∷ (blank ∷ told j) = cc in
      let bracket : Parts 0x5D = inr refl in
      let parts = cut-once 0x5D (inner κs) (inner λs) (joined-without 0x5D (λ f. omega arith) (map kind_name κs) (kinds-without bracket κs))
      (joined-without 0x5D (λ f. omega arith) (map kind_name λs) (kinds-without bracket λs)) cut in
      let words : told i ≡ told j = let rest = parts.1 in cc in
      let between : Parts blank = inl (omega arith) in
      let same =
      joined_once (mnemonic i) (map spelled (immediates i)) (mnemonic j) (map spelled (immediates j)) (told-words r between) (told-words w between) words in
      (same.0, spelled-all (immediates i) (immediates j) same.1)
