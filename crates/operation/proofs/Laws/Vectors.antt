-- For callers: a vector is given by its lanes, every operation gives sixteen bytes, and every scalar has its bound.
use mathlib.Core.Path.{◌≡◌, refl, sym, ◌∙◌, subst}
use mathlib.Core.Bool.{Bool, true, false, not}
use mathlib.Core.List.{List}
use Prim.Native.Nat.{ℕ, zero, suc, ◌*◌, ◌%◌, ◌^◌, ◌<◌}
use native.Mathlib.Nat.{lt_of_lt_of_le}
use native.Mathlib.Omega.{arith}
use lib.Dec.{T, leb, leb→le, eqb}
use lib.ListN.{replicate, set, length-set}
use lib.Pow.{pow_mono}
use mir.Syntax.{Width, w8, w16, w32, w64, w128}
use mir.Val.{bits, bytes}
use Rattle.scalar.specs.Scalar.{Sign, value, iextend}
use Rattle.scalar.proofs.Laws.Integers.{wrap-lt}
use Rattle.operation.specs.Shape.{lanes}
use Rattle.operation.specs.Vector.{number, le, lane, build, vec, Sixteen}
use Rattle.operation.specs.Op.{Unop, Not, Abs, Neg, Popcnt, Extend, ExtaddPairwise, unary}
use Rattle.operation.specs.Op.{Binop, And, Andnot, Or, Xor, Swizzle, Eq, Ne, Lt, Gt, Le, Ge}
use Rattle.operation.specs.Op.{Add, Sub, Mul, AddSat, SubSat, Min, Max, AvgrU, Q15mulrSatS, DotS, Narrow, Extmul, binary}
use Rattle.operation.specs.Op.{bitselect, Testop, AnyTrue, AllTrue, Bitmask, truth, all, test}
use Rattle.operation.specs.Op.{Shiftop, Shl, Shr, shift}
use Rattle.operation.specs.Op.{splat, unpack, extracted, replaced}
use Rattle.operation.specs.Op.{shuffled, Loadop, Whole, Widen, Repeat, ZeroPad, loaded, lane_in, lane_out}
use Rattle.operation.proofs.Laws.Number.{Bytes, length-le, bytes_le, bytes-append, bytes-set, bytes-zeros, field_of}
use Rattle.operation.proofs.Laws.Build.{length-build, field-build, in-lanes}
use Rattle.operation.proofs.Laws.Scan.{tally-lt}

-- ---- a vector and its lanes

in_bytes : (w : Width) → bits w ≡ 8 * bytes w
in_bytes w8 = refl
in_bytes w16 = refl
in_bytes w32 = refl
in_bytes w64 = refl
in_bytes w128 = refl

in_all : (w : Width) → lanes w * bytes w ≡ 16
in_all w8 = refl
in_all w16 = refl
in_all w32 = refl
in_all w64 = refl
in_all w128 = refl

-- lane n of the vector made of g is g n, reduced to the width
pub lane-vec : (w : Width) (g : ℕ → ℕ) (n : ℕ) → n < lanes w → lane w (vec w g) n ≡ g n % 2 ^ bits w
unfolding lane
lane-vec w g n h =
    subst (λ (k : ℕ). field_of k (number (vec w g)) n ≡ g n % 2 ^ k) (sym (in_bytes w)) (field-build (bytes w) (lanes w) n g h)

-- and every vector is made of its lanes
pub vec-lane : (w : Width) (v : List ℕ) → Sixteen v → v ≡ vec w (lane w v)
unfolding lane
vec-lane w v s =
    subst (λ (k : ℕ). v ≡ vec w (field_of k (number v))) (sym (in_bytes w)) (in-lanes (bytes w) (lanes w) v (in_all w) s)

-- ---- sixteen bytes

bytes-build : (k n : ℕ) (g : ℕ → ℕ) → Bytes (build k n g)
unfolding build
bytes-build k zero g = bytes_le 0 0
bytes-build k (suc n) g = bytes-append (build k n g) (le k (g n)) (bytes-build k n g) (bytes_le k (g n))

pub sixteen-vec : (w : Width) (g : ℕ → ℕ) → Sixteen (vec w g)
sixteen-vec w g = record { long = length-build (bytes w) (lanes w) g ∙ in_all w; bytes = bytes-build (bytes w) (lanes w) g }

pub sixteen-le : (x : ℕ) → Sixteen (le 16 x)
sixteen-le x = record { long = length-le 16 x; bytes = bytes_le 16 x }

pub sixteen-set : (v : List ℕ) (i x : ℕ) → x < 2 ^ 8 → Sixteen v → Sixteen (set v i x)
sixteen-set v i x f s = record { long = length-set v i x ∙ s.long; bytes = bytes-set v i x f s.bytes }

pub sixteen-zeros : Sixteen (replicate 16 0)
sixteen-zeros = record { long = refl; bytes = bytes-zeros 16 }

pub sixteen-unary : (o : Unop) (a : List ℕ) → Sixteen (unary o a)
sixteen-unary Not a = sixteen-le _
sixteen-unary (Abs w) a = sixteen-vec w _
sixteen-unary (Neg w) a = sixteen-vec w _
sixteen-unary Popcnt a = sixteen-vec w8 _
sixteen-unary (Extend h s w) a = sixteen-vec w _
sixteen-unary (ExtaddPairwise s w) a = sixteen-vec w _

pub sixteen-binary : (o : Binop) (a b : List ℕ) → Sixteen (binary o a b)
sixteen-binary And a b = sixteen-le _
sixteen-binary Andnot a b = sixteen-le _
sixteen-binary Or a b = sixteen-le _
sixteen-binary Xor a b = sixteen-le _
sixteen-binary Swizzle a b = sixteen-vec w8 _
sixteen-binary (Eq w) a b = sixteen-vec w _
sixteen-binary (Ne w) a b = sixteen-vec w _
sixteen-binary (Lt s w) a b = sixteen-vec w _
sixteen-binary (Gt s w) a b = sixteen-vec w _
sixteen-binary (Le s w) a b = sixteen-vec w _
sixteen-binary (Ge s w) a b = sixteen-vec w _
sixteen-binary (Add w) a b = sixteen-vec w _
sixteen-binary (Sub w) a b = sixteen-vec w _
sixteen-binary (Mul w) a b = sixteen-vec w _
sixteen-binary (AddSat s w) a b = sixteen-vec w _
sixteen-binary (SubSat s w) a b = sixteen-vec w _
sixteen-binary (Min s w) a b = sixteen-vec w _
sixteen-binary (Max s w) a b = sixteen-vec w _
sixteen-binary (AvgrU w) a b = sixteen-vec w _
sixteen-binary Q15mulrSatS a b = sixteen-vec w16 _
sixteen-binary DotS a b = sixteen-vec w32 _
sixteen-binary (Narrow s w) a b = sixteen-vec w _
sixteen-binary (Extmul h s w) a b = sixteen-vec w _

pub sixteen-bitselect : (a b c : List ℕ) → Sixteen (bitselect a b c)
sixteen-bitselect a b c = sixteen-le _

pub sixteen-shift : (o : Shiftop) (a : List ℕ) (n : ℕ) → Sixteen (shift o a n)
sixteen-shift (Shl w) a n = sixteen-vec w _
sixteen-shift (Shr s w) a n = sixteen-vec w _

pub sixteen-splat : (w : Width) (x : ℕ) → Sixteen (splat w x)
sixteen-splat w x = sixteen-vec w _

pub sixteen-replaced : (w : Width) (a : List ℕ) (i x : ℕ) → Sixteen (replaced w a i x)
sixteen-replaced w a i x = sixteen-vec w _

pub sixteen-shuffled : (a b s : List ℕ) → Sixteen (shuffled a b s)
sixteen-shuffled a b s = sixteen-vec w8 _

pub sixteen-lane_in : (w : Width) (m a : List ℕ) (i : ℕ) → Sixteen (lane_in w m a i)
sixteen-lane_in w m a i = sixteen-vec w _

pub sixteen-lane_out : (w : Width) (a : List ℕ) (i : ℕ) → Sixteen (lane_out w a i)
sixteen-lane_out w a i = sixteen-vec w _

pub sixteen-loaded : (o : Loadop) (m : List ℕ) → Sixteen m → Sixteen (loaded o m)
sixteen-loaded Whole m h = h
sixteen-loaded (Widen s w) m h = sixteen-vec w _
sixteen-loaded (Repeat w) m h = sixteen-vec w _
sixteen-loaded (ZeroPad w) m h = sixteen-vec w _

-- ---- scalars

truth-lt : (b : Bool) → truth b < 2 ^ 32
truth-lt true = omega arith
truth-lt false = omega arith

few-lanes : (w : Width) → T (leb (lanes w) 32)
few-lanes w8 = tt
few-lanes w16 = tt
few-lanes w32 = tt
few-lanes w64 = tt
few-lanes w128 = tt

pub test-lt : (o : Testop) (a : List ℕ) → test o a < 2 ^ 32
test-lt AnyTrue a = truth-lt (not (eqb (number a) 0))
test-lt (AllTrue w) a = truth-lt (all (lanes w) (λ n. not (eqb (lane w a n) 0)))
test-lt (Bitmask w) a = lt_of_lt_of_le (tally-lt (lanes w) _) (pow_mono (leb→le (lanes w) 32 (few-lanes w)))

pub extracted-lt : (s : Sign) (w : Width) (a : List ℕ) (i : ℕ) → extracted s w a i < 2 ^ bits (unpack w)
unfolding iextend
extracted-lt s w a i = wrap-lt (unpack w) (value s w (lane w a i))
