-- The two's complement reading, over the width w, and what fits a wider type.
use Rattle.std.proofs.Common.{◌≡◌, ℕ, suc, ◌+◌, ◌-◌, ◌*◌, ◌^◌, ◌<◌, ◌≤◌, ℤ, pos, negsuc, ◌+ℤ◌, ◌-ℤ◌, ◌*ℤ◌, nat_abs, sym, ap, ◌∙◌, subst, mul-le-mul, pow-suc, arith, pow_pos, pow_mono, pow-add, SFits, to_z, of_z}
use Rattle.std.proofs.lemmas.Int.{ints, unsigned_abs-mul}
use lib.Pow.{pow-lt}
use lib.Signed.{mag}
use mir.Syntax.{Width}
use mir.Val.{bits, hbits}
use mir.ValLaws.{bits-suc, pow-bits, to_z-neg, to_z-of_z}

-- !x is below half where x is not
high-not : (w : Width) (x : ℕ) → 2 ^ hbits w ≤ x → (2 ^ bits w - 1) - x < 2 ^ hbits w
high-not w x h = omega (arith, pow-bits w, pow_pos (hbits w))

pub high_is : (w : Width) (x : ℕ) → 2 ^ hbits w ≤ x → x < 2 ^ bits w → to_z w x ≡ negsuc ((2 ^ bits w - 1) - x)
high_is w x h f =
    ap (to_z w) e ∙ to_z-neg w ((2 ^ bits w - 1) - x) (high-not w x h)
  where
    e : x ≡ 2 ^ bits w - suc ((2 ^ bits w - 1) - x)
    e = omega arith

-- whatever the number, its signed reading fits
pub signed : (w : Width) (x : ℕ) → mag (to_z w x) < 2 ^ hbits w
signed w x = grind (arith, ints, pow-bits w, pow_pos (hbits w))

-- a signed result of a call, as the next call is handed it
pub crossed : (w : Width) (z : ℤ) → mag z < 2 ^ hbits w → to_z w (of_z w z) ≡ z
crossed w z h = to_z-of_z w z (record { sfits = h })

pub half-power : (w : Width) → 2 ^ (bits w - 1) ≡ 2 ^ hbits w
half-power w = ap (λ (m : ℕ). 2 ^ m) (omega (arith, bits-suc w))

-- ---- sums, differences and products in a wider type
wide-half : (w w' : Width) → hbits w < hbits w' → 2 ^ hbits w * 2 ≤ 2 ^ hbits w'
wide-half w w' t = subst (λ (n : ℕ). n ≤ 2 ^ hbits w') (pow-suc 2 (hbits w)) (pow_mono t)

pub widen-fits : (w w' : Width) (z : ℤ) → hbits w < hbits w' → mag z < 2 ^ hbits w → SFits w' z
widen-fits w w' z t h = record { sfits = omega (arith, wide-half w w' t) }

pub sum_fits : (w w' : Width) (x y : ℤ) → hbits w < hbits w' → mag x < 2 ^ hbits w → mag y < 2 ^ hbits w → SFits w' (x +ℤ y)
sum_fits w w' x y t hx hy = let k : 2 ^ hbits w * 2 ≤ 2 ^ hbits w' = wide-half w w' t in omega (arith, ints)

pub diff-fits : (w w' : Width) (x y : ℤ) → hbits w < hbits w' → mag x < 2 ^ hbits w → mag y < 2 ^ hbits w → SFits w' (x -ℤ y)
diff-fits w w' x y t hx hy = let k : 2 ^ hbits w * 2 ≤ 2 ^ hbits w' = wide-half w w' t in omega (arith, ints)

-- the magnitude of a lane fits it
pub abs-held : (w : Width) (x : ℕ) → nat_abs (to_z w x) < 2 ^ bits w
abs-held w x = grind (arith, ints, pow-bits w, pow_pos (hbits w), signed w x)

pub product-abs : (x y : ℤ) (H : ℕ) → mag x < H → mag y < H → nat_abs (x *ℤ y) ≤ H * H
product-abs x y H hx hy = subst (λ (n : ℕ). n ≤ H * H) (sym (unsigned_abs-mul x y)) (mul-le-mul (omega (arith, ints)) (omega (arith, ints)))

-- w' has room for the product and k more
pub round-fits : (w w' : Width) (x y : ℤ) (k : ℕ) → mag x < 2 ^ hbits w → mag y < 2 ^ hbits w → 2 ^ (hbits w + hbits w) + k < 2 ^ hbits w' → SFits w' (x *ℤ y +ℤ pos k)
round-fits w w' x y k hx hy t =
    let least : nat_abs (x *ℤ y) ≤ 2 ^ hbits w * 2 ^ hbits w = product-abs x y (2 ^ hbits w) hx hy in
    let square : 2 ^ (hbits w + hbits w) ≡ 2 ^ hbits w * 2 ^ hbits w = pow-add 2 (hbits w) (hbits w) in
    omega (arith, ints)

pub product-fits : (w w' : Width) (x y : ℤ) → hbits w + hbits w < hbits w' → mag x < 2 ^ hbits w → mag y < 2 ^ hbits w → SFits w' (x *ℤ y)
product-fits w w' x y t hx hy =
    let least : nat_abs (x *ℤ y) ≤ 2 ^ hbits w * 2 ^ hbits w = product-abs x y (2 ^ hbits w) hx hy in
    let square : 2 ^ (hbits w + hbits w) ≡ 2 ^ hbits w * 2 ^ hbits w = pow-add 2 (hbits w) (hbits w) in
    let room : 2 ^ (hbits w + hbits w) < 2 ^ hbits w' = pow-lt t in
    omega (arith, ints)
