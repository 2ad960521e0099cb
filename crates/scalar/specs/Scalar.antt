-- The integer operations on one lane (Core 2.0, 4.3.2; 000, "Integer arithmetic" to "Comparisons"), each once over the lane's
-- width w and, where a name ends in _s or _u, over the sign. A lane is its bits, a number below 2^w.
use Rattle.std.specs.Prelude.{ℕ, ◌+◌, ◌-◌, ◌*◌, ◌/◌, ◌%◌, ◌^◌, Bool, cond, not, ℤ, pos, negsuc, ◌+ℤ◌, ◌-ℤ◌, ◌*ℤ◌, neg_ℤ, ◌==◌, count_ones, int_le, int_lt, unsigned_abs}
use Rattle.std.specs.Int.Signed.{shr_z}
use Rattle.std.specs.Int.{Width}
use mir.Val.{bits, to_z}
use Rattle.scalar.specs.Bounds.{least, largest, all_ones}

pub data Sign : Type 0 where
  S : Sign
  U : Sign

-- the integer that a lane is read as: AsSigned by two's complement, AsUnsigned
abbrev pub value : Sign → Width → ℕ → ℤ
value S w x = to_z w x
value U w x = pos x

-- Reduce: an integer modulo 2^w; -(n+1) is 2^w - 1 - n modulo 2^w
abbrev pub wrap : Width → ℤ → ℕ
wrap w (pos n) = n % 2 ^ bits w
wrap w (negsuc n) = all_ones w - n % 2 ^ bits w

-- SignedSaturate, UnsignedSaturate
abbrev pub lowest : Sign → Width → ℤ
lowest S w = least w
lowest U w = pos 0

abbrev pub highest : Sign → Width → ℤ
highest S w = largest w
highest U w = pos (all_ones w)

unfoldable pub clamp : ℤ → ℤ → ℤ → ℤ
clamp lo hi z = cond (int_lt z lo) lo (cond (int_lt hi z) hi z)

unfoldable pub sat : Sign → Width → ℤ → ℕ
sat s w z = wrap w (clamp (lowest s w) (highest s w) z)

-- ---- arithmetic

abbrev pub iadd : Width → ℕ → ℕ → ℕ
iadd w x y = wrap w (pos x +ℤ pos y)

unfoldable pub isub : Width → ℕ → ℕ → ℕ
isub w x y = wrap w (pos x -ℤ pos y)

abbrev pub imul : Width → ℕ → ℕ → ℕ
imul w x y = wrap w (pos x *ℤ pos y)

unfoldable pub ineg : Width → ℕ → ℕ
ineg w x = wrap w (neg_ℤ (pos x))

unfoldable pub iabs : Width → ℕ → ℕ
iabs w x = wrap w (pos (unsigned_abs (value S w x)))

unfoldable pub iaddsat : Sign → Width → ℕ → ℕ → ℕ
iaddsat s w x y = sat s w (value s w x +ℤ value s w y)

unfoldable pub isubsat : Sign → Width → ℕ → ℕ → ℕ
isubsat s w x y = sat s w (value s w x -ℤ value s w y)

abbrev pub imin : Sign → Width → ℕ → ℕ → ℕ
imin s w x y = cond (int_lt (value s w x) (value s w y)) x y

abbrev pub imax : Sign → Width → ℕ → ℕ → ℕ
imax s w x y = cond (int_lt (value s w x) (value s w y)) y x

abbrev pub iavgr : ℕ → ℕ → ℕ
iavgr x y = (x + y + 1) / 2

unfoldable pub iq15mulrsat : Width → ℕ → ℕ → ℕ
iq15mulrsat w x y = sat S w (shr_z (value S w x *ℤ value S w y +ℤ pos 0x4000) (2 ^ 15))

abbrev pub ipopcnt : ℕ → ℕ
ipopcnt x = count_ones x

-- ---- shifts, the count modulo the width; to the right an integer is divided, rounding down

abbrev pub ishl : Width → ℕ → ℕ → ℕ
ishl w n x = wrap w (pos (x * 2 ^ (n % bits w)))

unfoldable pub ishr : Sign → Width → ℕ → ℕ → ℕ
ishr s w n x = wrap w (shr_z (value s w x) (2 ^ (n % bits w)))

-- ---- comparisons: all ones where it holds

abbrev pub mask : Width → Bool → ℕ
mask w b = cond b (all_ones w) 0

abbrev pub ieq : Width → ℕ → ℕ → ℕ
ieq w x y = mask w (x == y)

abbrev pub ine : Width → ℕ → ℕ → ℕ
ine w x y = mask w (not (x == y))

abbrev pub ilt : Sign → Width → ℕ → ℕ → ℕ
ilt s w x y = mask w (int_lt (value s w x) (value s w y))

abbrev pub ile : Sign → Width → ℕ → ℕ → ℕ
ile s w x y = mask w (int_le (value s w x) (value s w y))

-- ---- between two widths; narrowing reads its input as signed for both endings

unfoldable pub iextend : Sign → Width → Width → ℕ → ℕ
iextend s w w' x = wrap w' (value s w x)

unfoldable pub inarrow : Sign → Width → Width → ℕ → ℕ
inarrow s w w' x = sat s w' (value S w x)

unfoldable pub iextmul : Sign → Width → Width → ℕ → ℕ → ℕ
iextmul s w w' x y = wrap w' (value s w x *ℤ value s w y)

unfoldable pub iextadd : Sign → Width → Width → ℕ → ℕ → ℕ
iextadd s w w' x y = wrap w' (value s w x +ℤ value s w y)

-- two exact products, added
unfoldable pub idot : Width → Width → ℕ → ℕ → ℕ → ℕ → ℕ
idot w w' x y x' y' = wrap w' (value S w x *ℤ value S w y +ℤ value S w x' *ℤ value S w y')
