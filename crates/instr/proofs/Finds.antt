-- What decoding finds stands there, item by item; and a refusal's place lies in the file.
use Prim.Native.Nat.{ℕ, zero, suc, ◌+◌, ◌<◌, ◌≤◌, ◌^◌}
use mathlib.Core.Bool.{Bool, true, false}
use mathlib.Core.List.{List, [], ◌∷◌, ◌++◌, append_assoc}
use mathlib.Core.Path.{◌≡◌, refl, sym, ap, ◌∙◌}
use native.Mathlib.Nat.{add-zero}
use native.Mathlib.Omega.{arith}
use lib.Dec.{ltb, leb}
use lib.ListN.{length, get_or, take, drop, length-append, length-drop, length-take, take-append-drop, drop_of_length-le}
use lib.Seq.{drop-cons, get_or-drop}
use borrow.Author.Tests.{ltb-true, leb-true}
use Rattle.std.specs.Prelude.{Result, Ok, Err}
use Rattle.card.specs.Card.{DONE}
use Rattle.leb128.specs.Bits.{integer}
use Rattle.leb128.specs.Bytes.{bytes}
use Rattle.leb128.specs.Found.{Says}
use Rattle.leb128.specs.Grammar.{Written}
use Rattle.leb128.specs.Number.{int_of, number_at}
use Rattle.leb128.specs.declared.reading.Number.{Number}
use Rattle.leb128.specs.declared.reading.NoNumber.{NoNumber}
use Rattle.leb128.specs.declared.reading.NoNumber.TheVariants.{Short, Wrong}
use Rattle.leb128.proofs.Arith.{split, either}
use Rattle.leb128.proofs.Exact.{says}
use Rattle.opcode.specs.BlockType.{is_block_type}
use Rattle.instr.specs.Layout.{Field, Writes, InOrder, Below}
use Rattle.instr.specs.Decode.{Item, got, no, and_then, and_read, item_of, number_item, byte_at, lane_at, block_at, exponent_at, lanes_at, sixteen_at}
use Rattle.instr.specs.declared.Decoded.{Decoded}
use Rattle.instr.proofs.Places.{past}

-- from p to q stand bytes of which P holds
abbrev pub Here : List ℕ → ℕ → ℕ → (List ℕ → Type 0) → Type 0
Here s p q P = (bs : List ℕ) × (rest : List ℕ) × (drop p s ≡ bs ++ rest) × (q ≡ p + length bs) × P bs

pub here-none : (s : List ℕ) (p : ℕ) → Here s p p (λ bs. bs ≡ [])
here-none s p = ([], drop p s, refl, sym (add-zero p), refl)

pub here-join : (s : List ℕ) (p q r : ℕ) (A B C : List ℕ → Type 0) → ((xs ys : List ℕ) → A xs → B ys → C (xs ++ ys)) → Here s p q A → Here s q r B → Here s p r C
here-join s p q r A B C j a b =
    let e : a.1 ≡ b.0 ++ b.1 = sym (past s p a.0 a.1 a.2) ∙ ap (λ (k : ℕ). drop k s) (sym a.3) ∙ b.2 in (
      a.0 ++ b.0,
      b.1,
      a.2 ∙ ap (λ (l : List ℕ). a.0 ++ l) e ∙ sym (append_assoc a.0 b.0 b.1),
      omega (arith, a.3, b.3, length-append a.0 b.0),
      j a.0 b.0 a.4 b.4,
    )

pub here-next : (s : List ℕ) (p q r : ℕ) (f : Field) (fs : List Field) → Here s p q (Writes f) → Here s q r (InOrder Writes fs) → Here s p r (InOrder Writes (f ∷ fs))
here-next s p q r f fs a b = here-join s p q r (Writes f) (InOrder Writes fs) (InOrder Writes (f ∷ fs)) (λ xs ys w o. (xs, ys, refl, w, o)) a b

-- past the end there is no number, not even a wrong one
at-end : (sign : Bool) (N : ℕ) (s : List ℕ) (p : ℕ) → length s ≤ p → number_at sign N s p ≡ Err Short
unfolding number_at int_of
at-end sign N s p h = rw (drop_of_length-le s {i = p} h)

module _ (s : List ℕ) where
  -- a step found this; or its refusal has a code and a place in the file
  abbrev pub GotP : (ℕ → ℕ → Type 0) → Item → Type 0
  GotP P (got v q) = P v q
  GotP P (no c e) = (0 < c) × (e ≤ length s)

  pub read-got : (P Q : ℕ → ℕ → Type 0) (g : Item) (f : ℕ → ℕ → Item) → GotP P g → ((v q : ℕ) → P v q → GotP Q (f v q)) → GotP Q (and_read g f)
  read-got P Q (got v q) f a k = k v q a
  read-got P Q (no c e) f a k = a

  abbrev pub Good : (Decoded → Type 0) → Decoded → Type 0
  Good P d = (d.place ≤ length s) × (d.code ≡ DONE → P d)

  pub then-got : (P : ℕ → ℕ → Type 0) (Q : Decoded → Type 0) (g : Item) (f : ℕ → ℕ → Decoded) → GotP P g → ((v q : ℕ) → P v q → Good Q (f v q)) → Good Q (and_then g f)
  then-got P Q (got v q) f a k = k v q a
  then-got P Q (no c e) f a k = (a.1, λ z. absurd (omega (arith, a.0)))

  module _ (b : bytes s) where
    -- a number of N bits from p up to q
    unfoldable pub NumIs : Bool → ℕ → ℕ → ℕ → ℕ → Type 0
    NumIs sign N p v q = (v < 2 ^ N) × (p < q) × (q ≤ length s) × Here s p q (λ bs. Written sign N bs (integer sign N v))

    num-from : (sign : Bool) (N p : ℕ) (r : Result Number NoNumber) → number_at sign N s p ≡ r → Says sign N s p r → GotP (NumIs sign N p) (item_of s p r)
    unfolding NumIs
    num-from sign N p (Ok m) e f =
        let t = f.stands in
        (f.small, omega (arith, f.some), f.inside, (t.bytes, t.rest, t.here, ap (λ (x : ℕ). p + x) (sym t.long), t.writes))
    num-from sign N p (Err Short) e f = (omega arith, omega arith)
    num-from sign N p (Err Wrong) e f =
        (omega arith, either (length s) p (λ h. let o : ◌≡◌ {A = ℕ} 0 1 = cc (at-end sign N s p h) in absurd (omega arith)) (λ h. omega arith))

    pub num-got : (sign : Bool) (N p : ℕ) → 0 < N → GotP (NumIs sign N p) (item_of s p (number_at sign N s p))
    num-got sign N p h = num-from sign N p (number_at sign N s p) refl (says sign N s p b h)

    pub item-got : (sign : Bool) (N p : ℕ) → 0 < N → GotP (NumIs sign N p) (number_item sign N s p)
    unfolding number_item
    item-got sign N p h = num-got sign N p h

    unfoldable pub ByteIs : ℕ → ℕ → ℕ → Type 0
    ByteIs p v q = (p < length s) × (v < 256) × (q ≡ p + 1) × Here s p q (λ bs. bs ≡ v ∷ [])

    pub byte-got : (p : ℕ) → GotP (ByteIs p) (byte_at s p)
    unfolding byte_at ByteIs
    byte-got p =
        split (GotP (ByteIs p)) (ltb p (length s))
        (λ e.
        let l = ltb-true p (length s) e in
        (l, b p, refl, (get_or s p 0 ∷ [], drop (suc p) s, drop-cons s p 0 l, refl, refl)))
        (λ e. (omega arith, omega arith))

    unfoldable pub LaneIs : ℕ → ℕ → ℕ → ℕ → Type 0
    LaneIs n p v q = (v < n) × ByteIs p v q

    pub lane-got : (n p : ℕ) → GotP (LaneIs n p) (lane_at n s p)
    unfolding lane_at LaneIs ByteIs
    lane-got n p =
        read-got (ByteIs p) (LaneIs n p) (byte_at s p) _ (byte-got p)
        (λ v q a. split (GotP (LaneIs n p)) (ltb v n) (λ e. (ltb-true v n e, a)) (λ e. (omega arith, omega (arith, a.0))))

    unfoldable pub BlockIs : ℕ → ℕ → ℕ → Type 0
    BlockIs p v q = (is_block_type v ≡ true) × ByteIs p v q

    pub block-got : (p : ℕ) → GotP (BlockIs p) (block_at s p)
    unfolding block_at BlockIs ByteIs
    block-got p =
        read-got (ByteIs p) (BlockIs p) (byte_at s p) _ (byte-got p)
        (λ v q a. split (GotP (BlockIs p)) (is_block_type v) (λ e. (e, a)) (λ e. (omega arith, omega (arith, a.0))))

    unfoldable pub ExponentIs : ℕ → ℕ → ℕ → ℕ → Type 0
    ExponentIs m p v q = (2 ^ v ≤ m) × NumIs false 32 p v q

    pub exponent-got : (m p : ℕ) → GotP (ExponentIs m p) (exponent_at m s p)
    unfolding exponent_at ExponentIs NumIs
    exponent-got m p =
        read-got (NumIs false 32 p) (ExponentIs m p) (number_item false 32 s p) _ (item-got false 32 p (omega arith))
        (λ v q a. split (GotP (ExponentIs m p)) (leb (2 ^ v) m) (λ e. (leb-true (2 ^ v) m e, a)) (λ e. (omega arith, omega (arith, a.1, a.2))))

    unfoldable pub LanesAre : ℕ → ℕ → ℕ → ℕ → Type 0
    LanesAre n p v q = Here s p q (λ bs. (length bs ≡ n) × Below 32 bs)

    pub lanes-got : (n p : ℕ) → GotP (LanesAre n p) (lanes_at n s p)
    unfolding lanes_at LanesAre LaneIs ByteIs
    lanes-got zero p = ([], drop p s, refl, sym (add-zero p), (refl, tt))
    lanes-got (suc n) p =
        read-got (LaneIs 32 p) (LanesAre (suc n) p) (lane_at 32 s p) _ (lane-got 32 p)
        (λ v q a. more v q a (lanes_at n s q) (lanes-got n q))
      where
        more : (v q : ℕ) → LaneIs 32 p v q → (g : Item) → GotP (LanesAre n q) g → GotP (LanesAre (suc n) p) g
        more v q a (got w r) c =
            here-join s p q r (λ bs. bs ≡ v ∷ []) (λ bs. (length bs ≡ n) × Below 32 bs) (λ bs. (length bs ≡ suc n) × Below 32 bs)
            (λ xs ys f g. rw f ((ap suc g.0, (a.0, g.1)))) a.1.3 c
        more v q a (no x e) c = c

    unfoldable pub SixteenAre : ℕ → ℕ → ℕ → Type 0
    SixteenAre p v q = Here s p q (λ bs. (bs ≡ take 16 (drop p s)) × (length bs ≡ 16))

    pub sixteen-got : (p : ℕ) → GotP (SixteenAre p) (sixteen_at s p)
    unfolding sixteen_at SixteenAre
    sixteen-got p =
        split (GotP (SixteenAre p)) (leb (p + 16) (length s))
        (λ e.
        let k = leb-true (p + 16) (length s) e in
        let n : length (take 16 (drop p s)) ≡ 16 = omega (arith, length-take 16 (drop p s), length-drop p s) in
        (take 16 (drop p s), drop 16 (drop p s), sym (take-append-drop 16 (drop p s)), omega arith, (refl, n)))
        (λ e. (omega arith, omega arith))

    -- sixteen bytes are bytes
    pub part_bytes : (k p : ℕ) → Below 256 (take k (drop p s))
    part_bytes k p = below-take k (drop p s) (λ j. rw get_or-drop (b (p + j)))
      where
        below-take : (k : ℕ) (xs : List ℕ) → ((j : ℕ) → get_or xs j 0 < 256) → Below 256 (take k xs)
        below-take zero xs f = tt
        below-take (suc k) [] f = tt
        below-take (suc k) (x ∷ xs) f = (f 0, below-take k xs (λ j. f (suc j)))
