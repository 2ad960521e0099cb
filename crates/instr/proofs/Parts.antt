-- One item of an instruction, and items in order: each passes, or one thing is wrong with the first that does not.
use Prim.Native.Nat.{ℕ, ◌+◌, ◌<◌}
use mathlib.Core.Bool.{false}
use mathlib.Core.List.{List, [], ◌∷◌}
use mathlib.Core.Path.{◌≡◌, refl, sym, ap, subst, ◌∙◌}
use native.Mathlib.Omega.{arith}
use lib.ListN.{length, length-drop}
use Rattle.card.specs.Card.{SHORT, KIND, NUMBER, LANE, ALIGN}
use Rattle.leb128.proofs.Exact.{stands_same, stands-cut}
use Rattle.instr.specs.Refuses.{Form, number, byte, ItemAt, a_number, a_byte, Stops, cut_number, no_byte, Bad, bad_number, Part, any, block, lane, exponent, form, Permits, Right, Wrong, cut, no_block_type, no_number, large_index, large_exponent, Next, here, after}

-- ---- one item

module _ (s : List ℕ) (p : ℕ) where
  byte-once : {v q v' q' : ℕ} → ItemAt s p byte v q → ItemAt s p byte v' q' → v ≡ v'
  byte-once (a_byte a) (a_byte b) = let e = sym a ∙ b in cc (e)

  u32-once : {v q v' q' : ℕ} → ItemAt s p (number false 32) v q → ItemAt s p (number false 32) v' q' → v ≡ v'
  u32-once (a_number a) (a_number b) = let e = (stands_same false 32 s p a b).0 in cc (e)

  pub holds-once : {f : Form} {v q v' q' : ℕ} → ItemAt s p f v q → ItemAt s p f v' q' → q ≡ q'
  holds-once (a_number {sign} {N} a) (a_number b) = ap (λ (n : ℕ). p + n) (stands_same sign N s p a b).1
  holds-once (a_byte a) (a_byte b) = refl

  holds-stops : {f : Form} {v q : ℕ} → ItemAt s p f v q → Stops s p f → ⊥
  holds-stops (a_number {sign} {N} a) (cut_number c) = stands-cut sign N s p a c
  holds-stops (a_byte a) (no_byte c) = omega (arith, length-drop p s, ap length a, c)

  holds-bad : {f : Form} {v q : ℕ} → ItemAt s p f v q → Bad s p f → ⊥
  holds-bad (a_number {n = n} a) (bad_number c) = c.none _ n a
  holds-bad (a_byte _) c = elim c [ ]

  stops-bad : {f : Form} → Stops s p f → Bad s p f → ⊥
  stops-bad (cut_number a) (bad_number c) = c.whole a
  stops-bad (no_byte _) c = elim c [ ]

  allows-once : (i : Part) {v q v' q' : ℕ} → ItemAt s p (form i) v q → ItemAt s p (form i) v' q' → Permits i v → Permits i v'
  allows-once (any f) a b w = tt
  allows-once block a b w = subst (Permits block) (byte-once a b) w
  allows-once (lane n) a b w = subst (Permits (lane n)) (byte-once a b) w
  allows-once (exponent m) a b w = subst (Permits (exponent m)) (u32-once a b) w

  -- what a judge says of a value that is not allowed
  code_of : Part → ℕ
  code_of (any f) = 0
  code_of block = KIND
  code_of (lane n) = LANE
  code_of (exponent m) = ALIGN

  -- the card's lines by what they ask of the item: cut, no number, not allowed
  data Fault (i : Part) : ℕ → ℕ → Type 0 where
    cuts : Stops s p (form i) → Fault i SHORT (length s)
    bad : Bad s p (form i) → Fault i NUMBER p
    judged : {v q : ℕ} → ItemAt s p (form i) v q → (Permits i v → ⊥) → Fault i (code_of i) p

  fault : {i : Part} {c l : ℕ} → Wrong s p i c l → Fault i c l
  unfolding code_of
  fault (cut a) = cuts a
  fault (no_number a) = bad a
  fault (no_block_type a e) = judged a (λ t. let z : ◌≡◌ {A = ℕ} 0 1 = cc (t, e) in omega arith)
  fault (large_index a e) = judged a (λ t. omega (arith, t, e))
  fault (large_exponent a e) = judged a (λ t. omega (arith, t, e))

  fault-once : {i : Part} {c l c' l' : ℕ} → Fault i c l → Fault i c' l' → (c ≡ c') × (l ≡ l')
  fault-once (cuts a) (cuts b) = (refl, refl)
  fault-once (cuts a) (bad b) = absurd (stops-bad a b)
  fault-once (cuts a) (judged b n) = absurd (holds-stops b a)
  fault-once (bad a) (cuts b) = absurd (stops-bad b a)
  fault-once (bad a) (bad b) = (refl, refl)
  fault-once (bad a) (judged b n) = absurd (holds-bad b a)
  fault-once (judged a n) (cuts b) = absurd (holds-stops a b)
  fault-once (judged a n) (bad b) = absurd (holds-bad a b)
  fault-once (judged a n) (judged b m) = (refl, refl)

  passes-fault : {i : Part} {q c l : ℕ} → Right s p i q → Fault i c l → ⊥
  passes-fault t (cuts a) = holds-stops t.holds a
  passes-fault t (bad a) = holds-bad t.holds a
  passes-fault {i} t (judged a n) = n (allows-once i t.holds a t.allowed)

  pub wrong-once : {i : Part} {c l c' l' : ℕ} → Wrong s p i c l → Wrong s p i c' l' → (c ≡ c') × (l ≡ l')
  wrong-once a b = fault-once (fault a) (fault b)

  pub passes-wrong : {i : Part} {q c l : ℕ} → Right s p i q → Wrong s p i c l → ⊥
  passes-wrong t a = passes-fault t (fault a)

  pub byte-same : {v q v' q' : ℕ} → ItemAt s p byte v q → ItemAt s p byte v' q' → (v ≡ v') × (q ≡ q')
  byte-same a b = (byte-once a b, holds-once a b)

  pub u32-same : {v q v' q' : ℕ} → ItemAt s p (number false 32) v q → ItemAt s p (number false 32) v' q' → (v ≡ v') × (q ≡ q')
  u32-same a b = (u32-once a b, holds-once a b)

  pub wrong-coded : {i : Part} {c l : ℕ} → Wrong s p i c l → 0 < c
  wrong-coded (cut a) = omega arith
  wrong-coded (no_number a) = omega arith
  wrong-coded (no_block_type a e) = omega arith
  wrong-coded (large_index a e) = omega arith
  wrong-coded (large_exponent a e) = omega arith

-- ---- items in order

module _ (s : List ℕ) where
  -- the first that does not pass
  pub record Falls (is : List Part) (p c l : ℕ) : Type 0 where
    pub place : ℕ
    pub part : Part
    pub next : Next s is p place part
    pub wrong : Wrong s place part c l

  pub further : {i : Part} {is : List Part} {p q c l : ℕ} → Right s p i q → Falls is q c l → Falls (i ∷ is) p c l
  further t f = record { place = f.place; part = f.part; next = after t f.next; wrong = f.wrong }

  pub falls-here : {i : Part} {is : List Part} {p c l : ℕ} → Wrong s p i c l → Falls (i ∷ is) p c l
  falls-here {i} {p = p} w = record { place = p; part = i; next = here; wrong = w }

  -- all of them pass, up to q
  pub data Through : List Part → ℕ → ℕ → Type 0 where
    none_left : {p : ℕ} → Through [] p p
    passing : {i : Part} {is : List Part} {p q r : ℕ} → Right s p i q → Through is q r → Through (i ∷ is) p r

  next-once : {is : List Part} {p q r c l c' l' : ℕ} {i j : Part} → Next s is p q i → Next s is p r j → Wrong s q i c l → Wrong s r j c' l'
      → (c ≡ c') × (l ≡ l')
  next-once {p = p} here here a b = wrong-once s p a b
  next-once {p = p} here (after t n) a b = absurd (passes-wrong s p t a)
  next-once {p = p} (after t n) here a b = absurd (passes-wrong s p t b)
  next-once {is = is} {p} {r = r} {j = j} (after {i = i} {is = js} t n) (after u m) a b =
      next-once n (subst (λ (x : ℕ). Next s js x r j) (sym (holds-once s p t.holds u.holds)) m) a b

  pub falls-once : {is : List Part} {p c l c' l' : ℕ} → Falls is p c l → Falls is p c' l' → (c ≡ c') × (l ≡ l')
  falls-once a b = next-once a.next b.next a.wrong b.wrong

  through-next : {is : List Part} {p q r c l : ℕ} {j : Part} → Through is p q → Next s is p r j → Wrong s r j c l → ⊥
  through-next none_left n a = elim n [ ]
  through-next {p = p} (passing t o) here a = passes-wrong s p t a
  through-next {p = p} {q} (passing {i = i} {is = js} t o) (after u m) a =
      through-next (subst (λ (x : ℕ). Through js x q) (holds-once s p t.holds u.holds) o) m a

  pub through-falls : {is : List Part} {p q c l : ℕ} → Through is p q → Falls is p c l → ⊥
  through-falls t f = through-next t f.next f.wrong
