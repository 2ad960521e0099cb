-- What is read leads onward, to a place that is not before this one; what is refused has a code.
use Prim.Native.Nat.{ℕ, zero, suc, ◌+◌, ◌≤◌, ◌^◌}
use mathlib.Core.Bool.{Bool, true, false, cond}
use mathlib.Core.List.{List}
use mathlib.Core.Path.{◌≡◌}
use native.Mathlib.Omega.{arith}
use lib.Dec.{ltb, leb}
use lib.ListN.{length, get_or}
use Rattle.std.specs.Prelude.{Result, Ok, Err}
use Rattle.card.specs.Card.{DONE, SHORT, KIND, LANE, ALIGN}
use Rattle.leb128.specs.Number.{number_at}
use Rattle.leb128.specs.declared.reading.Number.{Number}
use Rattle.leb128.specs.declared.reading.NoNumber.{NoNumber}
use Rattle.leb128.specs.declared.reading.NoNumber.TheVariants.{Short, Wrong}
use Rattle.opcode.specs.BlockType.{is_block_type}
use Rattle.instr.specs.Decode.{Item, got, no, and_read, item_of, number_item, byte_at, lane_at, block_at, exponent_at, lanes_at, sixteen_at}

abbrev pub Onward : ℕ → Item → Type 0
Onward at (got v q) = at ≤ q
Onward at (no c l) = c ≡ DONE → ⊥

module _ (at : ℕ) where
  cond-onward : (t : Bool) (v q c l : ℕ) → at ≤ q → (c ≡ DONE → ⊥) → Onward at (cond t (got v q) (no c l))
  cond-onward true v q c l h z = h
  cond-onward false v q c l h z = z

  read-onward : (i : Item) (f : ℕ → ℕ → Item) → Onward at i → ((v q : ℕ) → at ≤ q → Onward at (f v q)) → Onward at (and_read i f)
  read-onward (got v q) f h g = g v q h
  read-onward (no c l) f h g = h

  module _ (s : List ℕ) where
    pub number-onward : (sign : Bool) (N p : ℕ) → at ≤ p → Onward at (number_item sign N s p)
    unfolding number_item
    number-onward sign N p h = by (number_at sign N s p)
      where
        by : (r : Result Number NoNumber) → Onward at (item_of s p r)
        by (Ok m) = omega arith
        by (Err Short) = λ z. omega (arith, z)
        by (Err Wrong) = λ z. omega (arith, z)

    pub exponent-onward : (m p : ℕ) → at ≤ p → Onward at (exponent_at m s p)
    unfolding exponent_at
    exponent-onward m p h =
        read-onward (number_item false 32 s p) _ (number-onward false 32 p h) (λ a q l. cond-onward (leb (2 ^ a) m) a q ALIGN p l (λ z. omega (arith, z)))

    pub lane-onward : (n p : ℕ) → at ≤ p → Onward at (lane_at n s p)
    unfolding lane_at byte_at
    lane-onward n p h =
        read-onward (cond (ltb p (length s)) (got (get_or s p 0) (p + 1)) (no SHORT (length s))) _
        (cond-onward (ltb p (length s)) (get_or s p 0) (p + 1) SHORT (length s) (omega arith) (λ z. omega (arith, z)))
        (λ b q l. cond-onward (ltb b n) b q LANE p l (λ z. omega (arith, z)))

    pub block-onward : (p : ℕ) → at ≤ p → Onward at (block_at s p)
    unfolding block_at byte_at
    block-onward p h =
        read-onward (cond (ltb p (length s)) (got (get_or s p 0) (p + 1)) (no SHORT (length s))) _
        (cond-onward (ltb p (length s)) (get_or s p 0) (p + 1) SHORT (length s) (omega arith) (λ z. omega (arith, z)))
        (λ b q l. cond-onward (is_block_type b) b q KIND p l (λ z. omega (arith, z)))

    pub lanes-onward : (k p : ℕ) → at ≤ p → Onward at (lanes_at k s p)
    unfolding lanes_at
    lanes-onward zero p h = h
    lanes-onward (suc k) p h = read-onward (lane_at 32 s p) _ (lane-onward 32 p h) (λ b q l. lanes-onward k q l)

    pub sixteen-onward : (p : ℕ) → at ≤ p → Onward at (sixteen_at s p)
    unfolding sixteen_at
    sixteen-onward p h = cond-onward (leb (p + 16) (length s)) 0 (p + 16) SHORT (length s) (omega arith) (λ z. omega (arith, z))
