-- Lanes: a lane of one byte is the byte, the lanes of two vectors one after the other, and a lane that goes over as it is.
use mathlib.Core.Path.{◌≡◌, sym, ap, ap₂, ◌∙◌, subst}
use mathlib.Core.Bool.{cond}
use mathlib.Core.List.{List, [], ◌∷◌, ◌++◌}
use Prim.Native.Nat.{ℕ, zero, suc, ◌+◌, ◌*◌, ◌-◌, ◌/◌, ◌%◌, ◌^◌, ◌≤◌, ◌<◌}
use native.Mathlib.Nat.{mod-mod, lt_of_lt_of_le, add_comm, mul-add, mul-suc, div-one, zero-lt-suc, mod-eq_of_lt, zero-div, zero-mod, add-sub_of_le}
use native.Mathlib.Omega.{arith}
use lib.Dec.{T, leb, leb→le, eqb}
use lib.IntN.{pos}
use lib.ListN.{replicate, length, get_or}
use lib.Pow.{pow_mono, shr-shr}
use mir.Syntax.{Width, w8}
use mir.Val.{bits, Fits, to_z}
use mir.ValLaws.{to_z-Fits, of_z-to_z}
use Rattle.scalar.specs.Scalar.{S, U, wrap, iextend}
use Rattle.scalar.proofs.Laws.Wrap.{wrap-nat, wrap-held}
use Rattle.operation.specs.Vector.{number, lane, vec}
use Rattle.operation.specs.Op.{splat, replaced}
use Rattle.operation.proofs.Laws.Number.{Bytes, head_byte, tail-bytes, number_append, number_lt, field-low, field-high, field_lt}

pub lane-lt : (w : Width) (v : List ℕ) (n : ℕ) → lane w v n < 2 ^ bits w
unfolding lane
lane-lt w v n = field_lt (bits w) (number v) n

pub lane_byte : (v : List ℕ) (n : ℕ) → Bytes v → lane w8 v n ≡ get_or v n 0
unfolding lane
lane_byte [] n h = mod-eq_of_lt (subst (λ (m : ℕ). m < 2 ^ 8) (sym (zero-div (2 ^ (8 * n)))) (zero-lt-suc 255)) ∙ zero-div (2 ^ (8 * n))
lane_byte (b ∷ v) zero h = ap (λ (m : ℕ). m % 2 ^ 8) (div-one (b + 2 ^ 8 * number v)) ∙ omega (arith, head_byte b v h)
lane_byte (b ∷ v) (suc n) h =
    ap (λ (m : ℕ). m % 2 ^ 8)
    (ap (λ (m : ℕ). (b + 2 ^ 8 * number v) / 2 ^ m) (mul-suc 8 n ∙ add_comm (8 * n) 8)
    ∙ sym (shr-shr (b + 2 ^ 8 * number v) 8 (8 * n))
    ∙ ap (λ (m : ℕ). m / 2 ^ (8 * n)) (omega (arith, head_byte b v h)))
    ∙ lane_byte v n (tail-bytes b v h)

-- the lanes of a, then those of b
pub lane_first : (w : Width) (a b : List ℕ) (n : ℕ) → bits w * n + bits w ≤ 8 * length a → lane w (a ++ b) n ≡ lane w a n
unfolding lane
lane_first w a b n h = ap (λ (x : ℕ). x / 2 ^ (bits w * n) % 2 ^ bits w) (number_append a b) ∙ field-low (bits w) n (8 * length a) (number b) (number a) h

pub lane-second : (w : Width) (m : ℕ) (a b : List ℕ) (n : ℕ) → Bytes a → bits w * m ≡ 8 * length a → m ≤ n → lane w (a ++ b) n ≡ lane w b (n - m)
unfolding lane
lane-second w m a b n h e l =
    ap₂ (λ (x y : ℕ). x / 2 ^ y % 2 ^ bits w) (number_append a b) at
    ∙ field-high (bits w) (n - m) (8 * length a) (number b) (number a) (number_lt a h)
  where
    at : bits w * n ≡ 8 * length a + bits w * (n - m)
    at = ap (λ (j : ℕ). bits w * j) (sym (add-sub_of_le l)) ∙ mul-add (bits w) m (n - m) ∙ ap (λ (j : ℕ). j + bits w * (n - m)) e

pub lane-zeros : (w : Width) (n : ℕ) → lane w (replicate 16 0) n ≡ 0
unfolding lane
lane-zeros w n = ap (λ (x : ℕ). x % 2 ^ bits w) (zero-div (2 ^ (bits w * n))) ∙ zero-mod (2 ^ bits w)

-- ---- lanes as they are

-- an unsigned lane in a wider scalar
pub unsigned-lane : (w w' : Width) (v : List ℕ) (n : ℕ) → T (leb (bits w) (bits w')) → lane w v n ≡ iextend U w w' (lane w v n)
unfolding iextend
unsigned-lane w w' v n t = sym (wrap-nat w' (lane w v n) (lt_of_lt_of_le (lane-lt w v n) (pow_mono (leb→le (bits w) (bits w') t))))

-- a lane as wide as the scalar
pub same-lane : (w : Width) (v : List ℕ) (n : ℕ) → lane w v n ≡ iextend S w w (lane w v n)
unfolding iextend
same-lane w v n = sym (wrap-held w (to_z w x) (to_z-Fits w x fit).sfits ∙ of_z-to_z w x fit)
  where
    x : ℕ
    x = lane w v n

    fit : Fits w x
    fit = record { fits = lane-lt w v n }

pub wrapped-lane : (w : Width) (v : List ℕ) (n : ℕ) → lane w v n ≡ wrap w (pos (lane w v n))
wrapped-lane w v n = sym (wrap-nat w (lane w v n) (lane-lt w v n))

-- x in place of x modulo 2^w
pub put-wrapped : (w : Width) (a : List ℕ) (i : ℕ) {x : ℕ} (y : ℕ) → x ≡ wrap w (pos y) → vec w (λ n. cond (eqb n i) x (lane w a n)) ≡ replaced w a i y
put-wrapped w a i y e = ap (λ (z : ℕ). vec w (λ n. cond (eqb n i) z (lane w a n))) e

pub splat-wrapped : (w : Width) (x : ℕ) → splat w (x % 2 ^ bits w) ≡ splat w x
splat-wrapped w x = ap (λ (z : ℕ). vec w (λ n. z)) (mod-mod x (2 ^ bits w))
