-- The vector operations (002's names; 000, "Operations"; Core 2.0, 4.4.3), grouped by what they take and give, and what each does to
-- the lanes. An operation is known by the shape before the dot of its name: i16x8.extend_low_i8x16_s is `Extend Low S i16x8`.
use Rattle.std.specs.Prelude.{ℕ, zero, suc, ◌+◌, ◌*◌, ◌-◌, ◌^◌, Bool, cond, not, true, ◌&&◌, List, ◌++◌, eqb, ltb, pos}
use Rattle.std.specs.Int.Bits.{bit_and, bit_or, bit_xor}
use Rattle.std.specs.Int.Signed.{lt_z}
use Rattle.std.specs.Int.{Width, w8, w16, w32, w64, w128}
use Rattle.scalar.specs.Scalar.{Sign, S, value, wrap}
use Rattle.scalar.specs.Scalar.{iadd, isub, imul, ineg, iabs, iaddsat, isubsat, imin, imax, iavgr, iq15mulrsat}
use Rattle.scalar.specs.Scalar.{ipopcnt, ishl, ishr, ieq, ine, ilt, ile, iextend, inarrow, iextmul, iextadd, idot}
use Rattle.operation.specs.Shape.{i8x16, i16x8, i32x4, lanes, half, twice}
use Rattle.operation.specs.Vector.{number, le, lane, vec, lanewise1, lanewise2}

pub data Half : Type 0 where
  Low : Half
  High : Half

-- v128 → v128
pub data Unop : Type 0 where
  Not : Unop
  Abs : Width → Unop
  Neg : Width → Unop
  Popcnt : Unop
  Extend : Half → Sign → Width → Unop
  ExtaddPairwise : Sign → Width → Unop

-- v128 v128 → v128
pub data Binop : Type 0 where
  And : Binop
  Andnot : Binop
  Or : Binop
  Xor : Binop
  Swizzle : Binop
  Eq : Width → Binop
  Ne : Width → Binop
  Lt : Sign → Width → Binop
  Gt : Sign → Width → Binop
  Le : Sign → Width → Binop
  Ge : Sign → Width → Binop
  Add : Width → Binop
  Sub : Width → Binop
  Mul : Width → Binop
  AddSat : Sign → Width → Binop
  SubSat : Sign → Width → Binop
  Min : Sign → Width → Binop
  Max : Sign → Width → Binop
  AvgrU : Width → Binop
  Q15mulrSatS : Binop
  DotS : Binop
  Narrow : Sign → Width → Binop
  Extmul : Half → Sign → Width → Binop

-- v128 → i32
pub data Testop : Type 0 where
  AnyTrue : Testop
  AllTrue : Width → Testop
  Bitmask : Width → Testop

-- v128 i32 → v128
pub data Shiftop : Type 0 where
  Shl : Width → Shiftop
  Shr : Sign → Width → Shiftop

-- what a load makes of the bytes that it read
pub data Loadop : Type 0 where
  Whole : Loadop
  Widen : Sign → Width → Loadop
  Repeat : Width → Loadop
  ZeroPad : Width → Loadop

-- one enumeration: the opcode table, the machine and the listing name it
pub data Op : Type 0 where
  Load : Loadop → Op
  LoadLane : Width → Op
  Store : Op
  StoreLane : Width → Op
  Const : Op
  Shuffle : Op
  Splat : Width → Op
  ExtractLane : Sign → Width → Op
  ReplaceLane : Width → Op
  Unary : Unop → Op
  Binary : Binop → Op
  Bitselect : Op
  Test : Testop → Op
  Shift : Shiftop → Op

-- ---- what they do

-- the first lane of a half, of as many lanes as the wider shape has
abbrev pub from : Half → Width → ℕ
from Low w = 0
from High w = lanes w

abbrev pub unary : Unop → List ℕ → List ℕ
unary Not a = le 16 (2 ^ 128 - 1 - number a)
unary (Abs w) a = lanewise1 w (iabs w) a
unary (Neg w) a = lanewise1 w (ineg w) a
unary Popcnt a = lanewise1 i8x16 ipopcnt a
unary (Extend h s w) a = vec w (λ n. iextend s (half w) w (lane (half w) a (from h w + n)))
unary (ExtaddPairwise s w) a = vec w (λ n. iextadd s (half w) w (lane (half w) a (2 * n)) (lane (half w) a (2 * n + 1)))

-- lane i of v, and 0 where there is none
abbrev pub lane_or0 : List ℕ → ℕ → ℕ
lane_or0 v i = cond (ltb i (lanes i8x16)) (lane i8x16 v i) 0

-- the bitwise ones are said of the 128-bit numbers; narrowing takes the lanes of a, then those of b
abbrev pub binary : Binop → List ℕ → List ℕ → List ℕ
binary And a b = le 16 (bit_and (number a) (number b))
binary Andnot a b = le 16 (bit_and (number a) (2 ^ 128 - 1 - number b))
binary Or a b = le 16 (bit_or (number a) (number b))
binary Xor a b = le 16 (bit_xor (number a) (number b))
binary Swizzle a b = vec i8x16 (λ n. lane_or0 a (lane i8x16 b n))
binary (Eq w) a b = lanewise2 w (ieq w) a b
binary (Ne w) a b = lanewise2 w (ine w) a b
binary (Lt s w) a b = lanewise2 w (ilt s w) a b
binary (Gt s w) a b = lanewise2 w (λ x y. ilt s w y x) a b
binary (Le s w) a b = lanewise2 w (ile s w) a b
binary (Ge s w) a b = lanewise2 w (λ x y. ile s w y x) a b
binary (Add w) a b = lanewise2 w (iadd w) a b
binary (Sub w) a b = lanewise2 w (isub w) a b
binary (Mul w) a b = lanewise2 w (imul w) a b
binary (AddSat s w) a b = lanewise2 w (iaddsat s w) a b
binary (SubSat s w) a b = lanewise2 w (isubsat s w) a b
binary (Min s w) a b = lanewise2 w (imin s w) a b
binary (Max s w) a b = lanewise2 w (imax s w) a b
binary (AvgrU w) a b = lanewise2 w iavgr a b
binary Q15mulrSatS a b = lanewise2 i16x8 (iq15mulrsat i16x8) a b
binary DotS a b =
    vec i32x4 (λ n. idot i16x8 i32x4 (lane i16x8 a (2 * n)) (lane i16x8 b (2 * n)) (lane i16x8 a (2 * n + 1)) (lane i16x8 b (2 * n + 1)))
binary (Narrow s w) a b = vec w (λ n. inarrow s (twice w) w (lane (twice w) (a ++ b) n))
binary (Extmul h s w) a b = vec w (λ n. iextmul s (half w) w (lane (half w) a (from h w + n)) (lane (half w) b (from h w + n)))

-- the bits of a where c has a one, those of b where it has none
abbrev pub bitselect : List ℕ → List ℕ → List ℕ → List ℕ
bitselect a b c = le 16 (bit_or (bit_and (number a) (number c)) (bit_and (number b) (2 ^ 128 - 1 - number c)))

abbrev pub truth : Bool → ℕ
truth b = cond b 1 0

-- P holds of 0 to n - 1
abbrev pub all : ℕ → (ℕ → Bool) → Bool
all zero P = true
all (suc n) P = P n && all n P

-- bit i is one where P holds of i, below n
abbrev pub tally : ℕ → (ℕ → Bool) → ℕ
tally zero P = 0
tally (suc n) P = tally n P + truth (P n) * 2 ^ n

abbrev pub test : Testop → List ℕ → ℕ
test AnyTrue a = truth (not (eqb (number a) 0))
test (AllTrue w) a = truth (all (lanes w) (λ n. not (eqb (lane w a n) 0)))
test (Bitmask w) a = tally (lanes w) (λ n. lt_z (value S w (lane w a n)) (pos 0))

abbrev pub shift : Shiftop → List ℕ → ℕ → List ℕ
shift (Shl w) a n = lanewise1 w (ishl w n) a
shift (Shr s w) a n = lanewise1 w (ishr s w n) a

abbrev pub splat : Width → ℕ → List ℕ
splat w x = vec w (λ n. wrap w (pos x))

-- a lane as the scalar that it is taken out as (Core's unpack): i32, and i64 of i64x2
abbrev pub unpack : Width → Width
unpack w8 = w32
unpack w16 = w32
unpack w32 = w32
unpack w64 = w64
unpack w128 = w128

abbrev pub extracted : Sign → Width → List ℕ → ℕ → ℕ
extracted s w a i = iextend s w (unpack w) (lane w a i)

abbrev pub replaced : Width → List ℕ → ℕ → ℕ → List ℕ
replaced w a i x = vec w (λ n. cond (eqb n i) (wrap w (pos x)) (lane w a n))

-- the bytes of a, then those of b
abbrev pub shuffled : List ℕ → List ℕ → List ℕ → List ℕ
shuffled a b s = vec i8x16 (λ n. lane i8x16 (a ++ b) (lane i8x16 s n))

-- ---- what loads and stores do: m is the bytes that were read, with zeros up to sixteen

-- lane i by itself, with zeros up to sixteen bytes
abbrev pub lane_out : Width → List ℕ → ℕ → List ℕ
lane_out w a i = vec w (λ n. cond (eqb n 0) (lane w a i) 0)

abbrev pub loaded : Loadop → List ℕ → List ℕ
loaded Whole m = m
loaded (Widen s w) m = unary (Extend Low s w) m
loaded (Repeat w) m = splat w (lane w m 0)
loaded (ZeroPad w) m = lane_out w m 0

abbrev pub lane_in : Width → List ℕ → List ℕ → ℕ → List ℕ
lane_in w m a i = replaced w a i (lane w m 0)
