-- 01, "Test weights": those marked P, in one list. A weight is put on the contract of a function of lane, or on a reading by leb128's contract.
use Rattle.std.specs.Prelude.{ℕ, ◌≡◌, Bool, true, false, ◌↔◌, List, [], ◌∷◌, Result, Err, ℤ, pos, neg_ℤ}
use Rattle.std.specs.Int.{Width}
use Rattle.scalar.specs.Scalar.{S, U, wrap}
use Rattle.operation.specs.Shape.{i8x16, i16x8, i32x4}
use Rattle.operation.specs.Vector.{vec}
use Rattle.operation.specs.Op.{Add, AddSat, DotS, Narrow, Q15mulrSatS, binary}
use Rattle.lane.specs.declared.V128.{V128}
use Rattle.leb128.specs.Bits.{bits}
use Rattle.leb128.specs.Number.{number_of}
use Rattle.leb128.specs.Promise.{ReadsNumber}
use Rattle.leb128.specs.declared.reading.Number.{Number}
use Rattle.leb128.specs.declared.reading.NoNumber.{NoNumber}
use Rattle.leb128.specs.declared.reading.NoNumber.TheVariants.{Wrong}

-- the functions of lane that 01 weighs
pub data Function : Type 0 where
  i8x16_add : Function
  i8x16_add_sat_u : Function
  i8x16_add_sat_s : Function
  i8x16_narrow_i16x8_u : Function
  i8x16_narrow_i16x8_s : Function
  i16x8_q15mulr_sat_s : Function
  i32x4_dot_i16x8_s : Function

-- what each promises of its answer r to the vectors a and b; src/ shows it of lane's function, at its shape
abbrev pub Promises : Function → V128 → V128 → V128 → Type 0
Promises i8x16_add a b r = r.bytes ≡ binary (Add i8x16) a.bytes b.bytes
Promises i8x16_add_sat_u a b r = r.bytes ≡ binary (AddSat U i8x16) a.bytes b.bytes
Promises i8x16_add_sat_s a b r = r.bytes ≡ binary (AddSat S i8x16) a.bytes b.bytes
Promises i8x16_narrow_i16x8_u a b r = r.bytes ≡ binary (Narrow U i8x16) a.bytes b.bytes
Promises i8x16_narrow_i16x8_s a b r = r.bytes ≡ binary (Narrow S i8x16) a.bytes b.bytes
Promises i16x8_q15mulr_sat_s a b r = r.bytes ≡ binary Q15mulrSatS a.bytes b.bytes
Promises i32x4_dot_i16x8_s a b r = r.bytes ≡ binary DotS a.bytes b.bytes

pub data Weight : Type 0 where
  -- a function of lane on two vectors, and the vector that it answers
  lanes : Function → List ℕ → List ℕ → List ℕ → Weight
  -- a number of N bits (true: signed) read from the first of these bytes on, and what is answered
  reading : Bool → ℕ → List ℕ → Result Number NoNumber → Weight

-- an answer meets the contract exactly where it is the one said
abbrev pub Holds : Weight → Type 0
Holds (lanes f a b said) = (r : V128) → Promises f (record { bytes = a }) (record { bytes = b }) r ↔ (r.bytes ≡ said)
Holds (reading sign N bytes said) = (r : Result Number NoNumber) → ReadsNumber sign N bytes 0 r ↔ (r ≡ said)

-- of every weight of a list
infixr 5 ◌and◌
pub data All (P : Weight → Type 0) : List Weight → Type 0 where
  none : All P []
  ◌and◌ : {w : Weight} {ws : List Weight} → P w → All P ws → All P (w ∷ ws)

-- the vector whose every lane is this integer
abbrev pub every : Width → ℤ → List ℕ
every w z = vec w (λ n. wrap w z)

abbrev pub minus : ℕ → ℤ
minus n = neg_ℤ (pos n)

abbrev pub weights : List Weight
weights =
    lanes i8x16_add (every i8x16 (pos 200)) (every i8x16 (pos 100)) (every i8x16 (pos 44)) ∷
    lanes i8x16_add_sat_u (every i8x16 (pos 200)) (every i8x16 (pos 100)) (every i8x16 (pos 255)) ∷
    lanes i8x16_add_sat_s (every i8x16 (pos 100)) (every i8x16 (pos 100)) (every i8x16 (pos 127)) ∷
    lanes i8x16_narrow_i16x8_u (every i16x8 (minus 1)) (every i16x8 (minus 1)) (every i8x16 (pos 0)) ∷
    lanes i8x16_narrow_i16x8_u (every i16x8 (pos 300)) (every i16x8 (pos 300)) (every i8x16 (pos 255)) ∷
    lanes i8x16_narrow_i16x8_s (every i16x8 (minus 300)) (every i16x8 (minus 300)) (every i8x16 (minus 128)) ∷
    lanes i16x8_q15mulr_sat_s (every i16x8 (minus 32768)) (every i16x8 (minus 32768)) (every i16x8 (pos 32767)) ∷
    lanes i16x8_q15mulr_sat_s (every i16x8 (pos 1)) (every i16x8 (pos 16384)) (every i16x8 (pos 1)) ∷
    lanes i16x8_q15mulr_sat_s (every i16x8 (pos 1)) (every i16x8 (minus 16384)) (every i16x8 (pos 0)) ∷
    lanes i32x4_dot_i16x8_s (every i16x8 (minus 32768)) (every i16x8 (minus 32768)) (every i32x4 (minus 2147483648)) ∷
    reading false 32 (0x8E ∷ 0x01 ∷ []) (number_of 142 2) ∷
    reading false 32 (0x8E ∷ 0x81 ∷ 0x80 ∷ 0x80 ∷ 0x00 ∷ []) (number_of 142 5) ∷
    reading false 32 (0x8E ∷ 0x81 ∷ 0x80 ∷ 0x80 ∷ 0x10 ∷ []) (Err Wrong) ∷
    reading true 32 (0xFF ∷ 0xFF ∷ 0xFF ∷ 0xFF ∷ 0x7F ∷ []) (number_of (bits 32 (minus 1)) 5) ∷
    reading true 32 (0xFF ∷ 0xFF ∷ 0xFF ∷ 0xFF ∷ 0x0F ∷ []) (Err Wrong) ∷
    []
