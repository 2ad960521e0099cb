-- What stands where a number was read.
use Prim.Native.Nat.{ℕ, ◌+◌, ◌<◌, ◌≤◌, ◌^◌}
use mathlib.Core.Bool.{Bool, true, false, cond}
use mathlib.Core.List.{List}
use mathlib.Core.Path.{◌≡◌, ap}
use native.Mathlib.Omega.{arith}
use lib.Dec.{leb, eqb}
use lib.ListN.{length}
use Rattle.std.specs.Prelude.{Result, Ok, Err}
use Rattle.card.specs.Card.{ALIGN}
use Rattle.leb128.specs.Number.{number_of, number_at}
use Rattle.leb128.specs.Bytes.{bytes}
use Rattle.leb128.specs.declared.reading.Number.{Number}
use Rattle.leb128.specs.declared.reading.NoNumber.{NoNumber}
use Rattle.leb128.specs.declared.reading.NoNumber.TheVariants.{Short, Wrong}
use Rattle.leb128.proofs.Bounds.{found-32}
use Rattle.opcode.specs.Table.{PREFIX}
use Rattle.instr.specs.Decode.{got, no, item_of, number_item, exponent_at, opcode_number}

-- the number and its length
item-there : (s : List ℕ) (p v q : ℕ) (r : Result Number NoNumber) → item_of s p r ≡ got v q → (n : ℕ) × (r ≡ number_of v n) × (q ≡ p + n)
item-there s p v q (Ok m) e = let same : m.value ≡ v = cc in (m.len, ap (λ (x : ℕ). number_of x m.len) same, cc)
item-there s p v q (Err Short) e = absurd (let z : ◌≡◌ {A = ℕ} 0 1 = cc in omega arith)
item-there s p v q (Err Wrong) e = absurd (let z : ◌≡◌ {A = ℕ} 0 1 = cc in omega arith)

module _ (sign : Bool) (s : List ℕ) (p : ℕ) (b : bytes s) (v q : ℕ) where
  pub number-32 : number_item sign 32 s p ≡ got v q → (v < 2 ^ 32) × (p < q) × (q ≤ length s)
  unfolding number_item
  number-32 e =
      let t = item-there s p v q (number_at sign 32 s p) e in
      omega (arith, found-32 sign s p b v t.0 t.1, t.2)

module _ (m : ℕ) (s : List ℕ) (p : ℕ) where
  pub exponent-none : (c e : ℕ) → number_item false 32 s p ≡ no c e → exponent_at m s p ≡ no c e
  unfolding exponent_at
  exponent-none c e f = rw f

  module _ (a q : ℕ) (f : number_item false 32 s p ≡ got a q) where
    pub exponent-good : leb (2 ^ a) m ≡ true → exponent_at m s p ≡ got a q
    unfolding exponent_at
    exponent-good t = rw (f, t)

    pub exponent-bad : leb (2 ^ a) m ≡ false → exponent_at m s p ≡ no ALIGN p
    unfolding exponent_at
    exponent-bad t = rw (f, t)

-- two numbers are the same where their bits and their lengths are
pub same-number : {v n w k : ℕ} → number_of v n ≡ number_of w k → (v ≡ w) × (n ≡ k)
same-number e = let m : ◌≡◌ {A = Number} (record { value = _; len = _ }) (record { value = _; len = _ }) = cc (e) in (ap (λ (x : Number). x.value) m, ap (λ (x : Number). x.len) m)

-- FD's number, or 0 of no bytes
pub opcode-there : (s : List ℕ) → bytes s → (first p v q : ℕ) → p ≤ length s → item_of s p (opcode_number first s p) ≡ got v q
    → (v < 2 ^ 32) × (p ≤ q) × (q ≤ length s)
unfolding opcode_number
opcode-there s b first p v q h e = by (eqb first PREFIX) (item-there s p v q (opcode_number first s p) e)
  where
    by : (t : Bool) → (n : ℕ) × (cond t (number_at false 32 s p) (number_of 0 0) ≡ number_of v n) × (q ≡ p + n) → (v < 2 ^ 32) × (p ≤ q) × (q ≤ length s)
    by true w = omega (arith, found-32 false s p b v w.0 w.1, w.2)
    by false w = omega (arith, same-number w.1, w.2)
