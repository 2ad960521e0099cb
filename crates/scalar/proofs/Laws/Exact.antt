-- Of one lane, once over the width (01, "Lane rules"): an extended product is exact and never leaves its lane; a dot product wraps only where
-- all four inputs are the least value.
use Rattle.std.proofs.Common.{◌≡◌, ℕ, zero, suc, ◌+◌, ◌-◌, ◌*◌, ◌^◌, ◌<◌, ◌≤◌, ◌⊎◌, ◌↔◌, ℤ, pos, negsuc, ◌+ℤ◌, ◌*ℤ◌, neg_ℤ, nat_abs, sym, refl, ap, ◌∙◌, subst, ap₂, inl, inr, lt_of_le_of_lt, le_of_lt, mod-eq_of_lt, mul_comm, eq-or-lt_of_le, mul-le-mul_left, mul-lt-mul_of_pos_right, pow-suc, arith, pow_pos, pow-add}
use lib.Signed.{mag}
use mir.Syntax.{Width}
use mir.Val.{bits, hbits}
use mir.ValLaws.{bits-suc}
use Rattle.scalar.specs.Bounds.{least}
use Rattle.scalar.specs.Scalar.{Sign, S, U, value, wrap, iextmul, idot}
use Rattle.scalar.proofs.Laws.Twos.{crossed, half-power, product-abs, product-fits, signed}
use Rattle.scalar.proofs.Laws.Wrap.{sub_cases, wrap-held}

-- w' has twice the bits of w
abbrev pub Doubles : Width → Width → Type 0
Doubles w w' = bits w' ≡ bits w + bits w

half-bits : (w w' : Width) → Doubles w w' → hbits w' ≡ suc (hbits w + hbits w)
half-bits w w' e = omega (arith, bits-suc w, bits-suc w', e)

-- a signed integer that w' holds is read back
pub read_back : (w : Width) (z : ℤ) → mag z < 2 ^ hbits w → value S w (wrap w z) ≡ z
read_back w z h = ap (value S w) (wrap-held w z h) ∙ crossed w z h

-- a product of two numbers of k bits has k + k
below : (k : ℕ) {a b : ℕ} → a < 2 ^ k → b < 2 ^ k → a * b < 2 ^ (k + k)
below k {a} {b} ha hb =
    subst (λ (n : ℕ). a * b < n) (sym (pow-add 2 k k))
    (lt_of_le_of_lt (mul-le-mul_left a (le_of_lt hb)) (mul-lt-mul_of_pos_right ha (pow_pos k)))

-- the lane of twice the width, read by the same ending, is the product of the two lanes
pub extmul-exact : (s : Sign) (w w' : Width) (x y : ℕ) → Doubles w w' → x < 2 ^ bits w → y < 2 ^ bits w
    → value s w' (iextmul s w w' x y) ≡ value s w x *ℤ value s w y
unfolding iextmul
extmul-exact U w w' x y e hx hy = ap pos (mod-eq_of_lt (subst (λ (k : ℕ). x * y < 2 ^ k) (sym e) (below (bits w) hx hy)))
extmul-exact S w w' x y e hx hy =
    read_back w' (value S w x *ℤ value S w y) (product-fits w w' (value S w x) (value S w y) wide (signed w x) (signed w y)).sfits
  where
    wide : hbits w + hbits w < hbits w'
    wide = omega (arith, half-bits w w' e)

-- ---- integers from -H to H - 1

mul-less : (a b H : ℕ) → a < H → b ≤ H → a * b < H * H
mul-less a b H ha hb = lt_of_le_of_lt (mul-le-mul_left a hb) (mul-lt-mul_of_pos_right ha some)
  where
    some : 0 < H
    some = omega arith

abs_neg : (n : ℕ) → nat_abs (neg_ℤ (pos n)) ≡ n
abs_neg zero = refl
abs_neg (suc n) = refl

-- H-as-H is the product of two -H only
full-product : (x y : ℤ) (H : ℕ) → mag x < H → mag y < H → x *ℤ y ≡ pos (H * H) → (x ≡ negsuc (H - 1)) × (y ≡ negsuc (H - 1))
full-product (pos a) (pos b) H hx hy e = absurd (omega (arith, mul-less a b H hx (le_of_lt hy), ap nat_abs e))
full-product (pos a) (negsuc b) H hx hy e = absurd (omega (arith, mul-less a (suc b) H hx hy, sym (abs_neg (a * suc b)) ∙ ap nat_abs e))
full-product (negsuc a) (pos b) H hx hy e =
    absurd (omega (arith, mul-less b (suc a) H hy hx, mul_comm b (suc a), sym (abs_neg (suc a * b)) ∙ ap nat_abs e))
full-product (negsuc a) (negsuc b) H hx hy e = (ap negsuc (first (eq-or-lt_of_le hx)), ap negsuc (second (eq-or-lt_of_le hy)))
  where
    first : (suc a ≡ H) ⊎ (suc a < H) → a ≡ H - 1
    first (inl p) = omega arith
    first (inr l) = absurd (omega (arith, mul-less (suc a) (suc b) H l hy, ap nat_abs e))

    second : (suc b ≡ H) ⊎ (suc b < H) → b ≡ H - 1
    second (inl p) = omega arith
    second (inr l) = absurd (omega (arith, mul-less (suc b) (suc a) H l hx, mul_comm (suc b) (suc a), ap nat_abs e))

-- two of magnitude N or less: their sum is from -2N to 2N - 1, or both are N
full-sum : (p q : ℤ) (N : ℕ) → 0 < N → nat_abs p ≤ N → nat_abs q ≤ N → (mag (p +ℤ q) < N + N) ⊎ ((p ≡ pos N) × (q ≡ pos N))
full-sum (pos a) (pos b) N some hp hq = at (eq-or-lt_of_le hp) (eq-or-lt_of_le hq)
  where
    at : (a ≡ N) ⊎ (a < N) → (b ≡ N) ⊎ (b < N) → (a + b < N + N) ⊎ ((pos a ≡ pos N) × (pos b ≡ pos N))
    at (inl e) (inl f) = inr (ap pos e, ap pos f)
    at (inl e) (inr l) = inl (omega arith)
    at (inr l) t = inl (omega arith)
full-sum (pos a) (negsuc b) N some hp hq = inl (sub_cases a (suc b) (λ z. mag z < N + N) (λ h. omega arith) (λ h. omega arith))
full-sum (negsuc a) (pos b) N some hp hq = inl (sub_cases b (suc a) (λ z. mag z < N + N) (λ h. omega arith) (λ h. omega arith))
full-sum (negsuc a) (negsuc b) N some hp hq = inl (omega arith)

-- ---- two products added

abbrev pub exact_dot : Width → ℕ → ℕ → ℕ → ℕ → ℤ
exact_dot w x y x' y' = value S w x *ℤ value S w y +ℤ value S w x' *ℤ value S w y'

abbrev pub AllLeast : Width → ℕ → ℕ → ℕ → ℕ → Type 0
AllLeast w x y x' y' = (value S w x ≡ least w) × (value S w y ≡ least w) × (value S w x' ≡ least w) × (value S w y' ≡ least w)

module _ (w w' : Width) (x y x' y' : ℕ) (e : Doubles w w')
    (hx : x < 2 ^ bits w) (hy : y < 2 ^ bits w) (hx' : x' < 2 ^ bits w) (hy' : y' < 2 ^ bits w) where
  -- what w' holds
  room : 2 ^ hbits w' ≡ 2 ^ hbits w * 2 ^ hbits w + 2 ^ hbits w * 2 ^ hbits w
  room =
      ap (λ (k : ℕ). 2 ^ k) (half-bits w w' e) ∙ pow-suc 2 (hbits w + hbits w)
      ∙ omega (arith, pow-add 2 (hbits w) (hbits w))

  pub dot-exact : (value S w' (idot w w' x y x' y') ≡ exact_dot w x y x' y') ↔ (AllLeast w x y x' y' → ⊥)
  unfolding idot
  dot-exact = (wraps, (λ other. at other (full-sum p q (H * H) some (product-abs (value S w x) (value S w y) H mx my) second)))
    where
      H : ℕ
      H = 2 ^ hbits w

      mx : mag (value S w x) < H
      mx = signed w x

      my : mag (value S w y) < H
      my = signed w y

      mx' : mag (value S w x') < H
      mx' = signed w x'

      my' : mag (value S w y') < H
      my' = signed w y'

      second : nat_abs (value S w x' *ℤ value S w y') ≤ H * H
      second = product-abs (value S w x') (value S w y') H mx' my'

      p : ℤ
      p = value S w x *ℤ value S w y

      q : ℤ
      q = value S w x' *ℤ value S w y'

      some : 0 < H * H
      some = subst (λ (k : ℕ). 0 < k) (pow-add 2 (hbits w) (hbits w)) (pow_pos (hbits w + hbits w))

      is-least : least w ≡ negsuc (H - 1)
      is-least = ap (λ (k : ℕ). negsuc (k - 1)) (half-power w)

      one : suc (H - 1) ≡ H
      one = omega (arith, pow_pos (hbits w))

      -- all four least: the exact sum is one more than the largest
      wraps : value S w' (wrap w' (p +ℤ q)) ≡ p +ℤ q → AllLeast w x y x' y' → ⊥
      wraps f (a, b, c, d) = omega (arith, room, fits)
        where
          sum : p +ℤ q ≡ pos (H * H + H * H)
          sum =
              ap₂ ◌+ℤ◌ (ap₂ ◌*ℤ◌ (a ∙ is-least) (b ∙ is-least)) (ap₂ ◌*ℤ◌ (c ∙ is-least) (d ∙ is-least))
              ∙ ap (λ (k : ℕ). pos (k * k + k * k)) one

          fits : H * H + H * H < 2 ^ hbits w'
          fits = subst (λ (z : ℤ). mag z < 2 ^ hbits w') (f ∙ sum) (signed w' (wrap w' (p +ℤ q)))

      at : (AllLeast w x y x' y' → ⊥) → (mag (p +ℤ q) < H * H + H * H) ⊎ ((p ≡ pos (H * H)) × (q ≡ pos (H * H)))
          → value S w' (wrap w' (p +ℤ q)) ≡ p +ℤ q
      at other (inl l) = read_back w' (p +ℤ q) (subst (λ (k : ℕ). mag (p +ℤ q) < k) (sym room) l)
      at other (inr (f, g)) = absurd (other (one-x.0 ∙ sym is-least, one-x.1 ∙ sym is-least, one-y.0 ∙ sym is-least, one-y.1 ∙ sym is-least))
        where
          one-x : (value S w x ≡ negsuc (H - 1)) × (value S w y ≡ negsuc (H - 1))
          one-x = full-product (value S w x) (value S w y) H mx my f

          one-y : (value S w x' ≡ negsuc (H - 1)) × (value S w y' ≡ negsuc (H - 1))
          one-y = full-product (value S w x') (value S w y') H mx' my' g
