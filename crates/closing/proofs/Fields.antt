-- Past a number, past bytes, past fields: where fields stand, the place after them.
use Prim.Native.Nat.{ℕ, zero, suc, ◌+◌, ◌≤◌, ◌<◌}
use mathlib.Core.Path.{◌≡◌, refl, ap, ◌∙◌}
use mathlib.Core.Bool.{Bool, true, false, cond}
use mathlib.Core.List.{List, [], ◌∷◌, ◌++◌}
use native.Mathlib.Omega.{arith}
use lib.Dec.{ltb}
use lib.IntN.{ℤ}
use lib.ListN.{length, get_or, drop, length-append, length-drop}
use borrow.Author.Tests.{lt-ltb, le-ltb}
use Rattle.leb128.specs.Grammar.{Written, u_last, s_low, s_high, more}
use Rattle.opcode.specs.Immediate.{Immediates, nothing, index, block_type, word, long, memory, memory_lane, lane_index, sixteen_bytes, sixteen_lanes}
use Rattle.instr.specs.declared.Instr.{Instr}
use Rattle.instr.specs.Layout.{Field, number, raw, Writes, InOrder, immediate_fields}
use Rattle.instr.proofs.Places.{past, first_of}
use Rattle.closing.specs.Search.{Ends, number_long, past_number, past_bytes, past_field, past_fields, blank}

-- ---- a number

last-long : (b : ℕ) (bs : List ℕ) → b < 128 → number_long (b ∷ bs) ≡ 1
unfolding number_long
last-long b bs l = ap (λ (t : Bool). cond t 1 (suc (number_long bs))) (lt-ltb b 128 l)

more-long : (b : ℕ) (bs : List ℕ) → 128 ≤ b → number_long (b ∷ bs) ≡ suc (number_long bs)
unfolding number_long
more-long b bs l = ap (λ (t : Bool). cond t 1 (suc (number_long bs))) (le-ltb b 128 l)

long-most : (bs : List ℕ) → number_long bs ≤ length bs
unfolding number_long
long-most [] = omega arith
long-most (b ∷ bs) = by (ltb b 128) (long-most bs)
  where
    by : (t : Bool) → number_long bs ≤ length bs → cond t 1 (suc (number_long bs)) ≤ suc (length bs)
    by true l = omega arith
    by false l = omega arith

-- what writes a number is all of it
written-long : {sign : Bool} {N : ℕ} {bs : List ℕ} {z : ℤ} → Written sign N bs z → (rest : List ℕ) → number_long (bs ++ rest) ≡ length bs
written-long (u_last {n = n} a b) rest = last-long n rest (omega arith)
written-long (s_low {n = n} a b) rest = last-long n rest (omega arith)
written-long (s_high {n = n} a b c d) rest = last-long n rest (omega arith)
written-long (more {n = n} {bs = bs} a b c w d) rest = more-long n (bs ++ rest) (omega arith) ∙ ap suc (written-long w rest)

-- its first byte below 128 ends it; where there is none it goes on to the end
long-to : (bs : List ℕ) (last : ℕ) → Ends bs last → number_long bs ≡ last + 1
long-to [] last e = absurd (omega (arith, e.inside))
long-to (b ∷ bs) zero e = last-long b bs e.here
long-to (b ∷ bs) (suc last) e =
    let up : Ends bs last = record { inside = omega (arith, e.inside); here = e.here; first = λ k l. e.first (suc k) (omega arith) } in
    omega (arith, more-long b bs (e.first 0 (omega arith)), long-to bs last up)

long-all : (bs : List ℕ) → ((k : ℕ) → k < length bs → 128 ≤ get_or bs k 0) → number_long bs ≡ length bs
unfolding number_long
long-all [] h = refl
long-all (b ∷ bs) h = omega (arith, more-long b bs (h 0 (omega arith)), long-all bs (λ k l. h (suc k) (omega arith)))

module _ (s : List ℕ) where
  pub past-last : (p last : ℕ) → p ≤ length s → Ends (drop p s) last → past_number s p ≡ p + last + 1
  past-last p last l e = omega (arith, long-to (drop p s) last e)

  pub past-all : (p : ℕ) → p ≤ length s → ((k : ℕ) → k < length (drop p s) → 128 ≤ get_or (drop p s) k 0) → past_number s p ≡ length s
  past-all p l h = omega (arith, long-all (drop p s) h, length-drop p s)

  -- ---- fields

  pub inside : (p : ℕ) → p ≤ length s → (f : Field) → (p ≤ past_field s p f) × (past_field s p f ≤ length s)
  inside p l (number sign N v) = (omega arith, omega (arith, long-most (drop p s), length-drop p s))
  inside p l (raw bs) = (omega arith, omega arith)

  pub all-inside : (p : ℕ) → p ≤ length s → (fs : List Field) → (p ≤ past_fields s p fs) × (past_fields s p fs ≤ length s)
  all-inside p l [] = (omega arith, l)
  all-inside p l (f ∷ fs) =
      let a = inside p l f in
      let b = all-inside (past_field s p f) a.1 fs in (omega (arith, a.0, b.0), b.1)

  one_field : (p : ℕ) (xs rest : List ℕ) → p ≤ length s → drop p s ≡ xs ++ rest → (f : Field) → Writes f xs → past_field s p f ≡ p + length xs
  one_field p xs rest l e (number sign N v) w = ap (λ (bs : List ℕ). p + number_long bs) e ∙ ap (λ (n : ℕ). p + n) (written-long w rest)
  one_field p xs rest l e (raw bs) w = omega (arith, ap length w, length-drop p s, ap length e, length-append xs rest)

  pub fields-past : (p : ℕ) (bs rest : List ℕ) → p ≤ length s → drop p s ≡ bs ++ rest → (fs : List Field) → InOrder Writes fs bs
      → past_fields s p fs ≡ p + length bs
  fields-past p bs rest l e [] o = omega (arith, ap length o)
  fields-past p bs rest l e (f ∷ fs) o =
      let here = first_of s p bs o.0 o.1 rest e o.2 in
      let one = one_field p o.0 (o.1 ++ rest) l here f o.3 in
      let more : p + length o.0 ≤ length s = omega (arith, one, inside p l f) in
      let all = fields-past (p + length o.0) o.1 rest more (past s p o.0 (o.1 ++ rest) here) fs o.4 in
      ap (λ (q : ℕ). past_fields s q fs) one ∙ all ∙ omega (arith, ap length o.2, length-append o.0 o.1)

  -- whatever they hold
  pub as-blank : (k : Immediates) (i : Instr) → length i.bytes ≡ 16 → (p : ℕ)
      → past_fields s p (immediate_fields k i) ≡ past_fields s p (immediate_fields k blank)
  unfolding immediate_fields
  as-blank nothing i l p = refl
  as-blank index i l p = refl
  as-blank block_type i l p = refl
  as-blank word i l p = refl
  as-blank long i l p = refl
  as-blank memory i l p = refl
  as-blank memory_lane i l p = refl
  as-blank lane_index i l p = refl
  as-blank sixteen_bytes i l p = ap (past_bytes s p) l
  as-blank sixteen_lanes i l p = ap (past_bytes s p) l
