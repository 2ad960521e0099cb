-- 01's rules for a fifth and a tenth byte hold.
use Prim.Native.Nat.{ℕ, suc, ◌+◌, ◌-◌, ◌*◌, ◌<◌, ◌≤◌, ◌^◌}
use mathlib.Core.Path.{◌≡◌, refl, ap, ◌∙◌}
use mathlib.Core.Bool.{Bool, true, false}
use mathlib.Core.Logic.{inl, inr}
use mathlib.Core.List.{List, [], ◌∷◌, ◌++◌}
use native.Mathlib.Omega.{arith}
use lib.ListN.{length, drop}
use lib.IntN.{ℤ, pos, ◌-ℤ◌}
use borrow.Author.Tests.{lt-ltb, le-ltb, lt-leb}
use Rattle.leb128.specs.Grammar.{Written, u_last, s_low, s_high}
use Rattle.leb128.specs.Bits.{bits}
use Rattle.leb128.specs.Number.{number_of, Read, is, wrong, last_of, before, int_of, bits_of, number_at}
use Rattle.leb128.specs.LastByte.{FifthU32, FifthS32, TenthS64, Going, LastRule}
use Rattle.leb128.proofs.Arith.{either, up}
use Rattle.leb128.proofs.Reader.{more-step, reads}

-- bytes of 128 or more before a finding
befores : List ℕ → Read → Read
befores [] r = r
befores (n ∷ bs) r = before n (befores bs r)

goes : (sign : Bool) (N : ℕ) (front bs : List ℕ) → Going front → 7 * length front < N
    → int_of sign N (front ++ bs) ≡ befores front (int_of sign (N - 7 * length front) bs)
unfolding befores
goes sign N [] bs g l =
    let e : N ≡ N - 0 = omega arith in
    ap (λ (x : ℕ). int_of sign x bs) e
goes sign N (n ∷ front) bs g l =
    let e : N - 7 - 7 * length front ≡ N - 7 * suc (length front) = omega arith in
    more-step sign N n (front ++ bs) g.0 (omega arith)
    ∙ ap (before n) (goes sign (N - 7) front bs g.1 (omega arith) ∙ ap (λ (x : ℕ). befores front (int_of sign x bs)) e)

befores-wrong : (front : List ℕ) → befores front wrong ≡ wrong
unfolding befores before
befores-wrong [] = refl
befores-wrong (n ∷ front) = ap (before n) (befores-wrong front)

befores-is : (front : List ℕ) (z : ℤ) → (y : ℤ) × (befores front (is z 1) ≡ is y (suc (length front)))
unfolding befores before
befores-is [] z = (z, refl)
befores-is (n ∷ front) z = let t = befores-is front z in (up n t.0, ap (before n) t.1)

-- where M = N - 7k bits are open, the rule is that of one last byte
rule : (sign : Bool) (N k M : ℕ) (Allowed : ℕ → Type 0) → 7 * k < N → N - 7 * k ≡ M
    → ((b : ℕ) → Allowed b → (z : ℤ) × Written sign M (b ∷ []) z)
    → ((b : ℕ) (rest : List ℕ) → (Allowed b → ⊥) → int_of sign M (b ∷ rest) ≡ wrong) → LastRule sign N k Allowed
unfolding number_at
rule sign N k M Allowed l m good bad s at front b rest e long g =
    let q : int_of sign N (drop at s) ≡ befores front (int_of sign M (b ∷ rest)) =
    ap (int_of sign N) e
    ∙ goes sign N front (b ∷ rest) g (rw long l)
    ∙ ap (λ (x : ℕ). befores front (int_of sign x (b ∷ rest))) (ap (λ (x : ℕ). N - 7 * x) long ∙ m) in (
      λ a.
          let t = good b a in
          let u = befores-is front t.0 in
          (bits N u.0, ap (bits_of N) (q ∙ ap (befores front) (reads t.1 rest) ∙ u.1) ∙ ap (λ (x : ℕ). number_of (bits N u.0) (suc x)) long),
      λ a. ap (bits_of N) (q ∙ ap (befores front) (bad b rest a) ∙ befores-wrong front),
    )

goes_on : (sign : Bool) (M b : ℕ) (rest : List ℕ) → M ≤ 7 → 128 ≤ b → int_of sign M (b ∷ rest) ≡ wrong
unfolding int_of
goes_on sign M b rest m h = rw (le-ltb b 128 h, le-ltb 7 M m)

u-wrong : (M b : ℕ) (rest : List ℕ) → b < 128 → 2 ^ M ≤ b → int_of false M (b ∷ rest) ≡ wrong
unfolding int_of last_of
u-wrong M b rest h l = rw (lt-ltb b 128 h, le-ltb b (2 ^ M) l)

s-wrong : (M b : ℕ) (rest : List ℕ) → M ≤ 7 → (b < 2 ^ (M - 1) → ⊥) → (128 ≤ b + 2 ^ (M - 1) → b < 128 → ⊥) → int_of true M (b ∷ rest) ≡ wrong
unfolding int_of last_of
s-wrong M b rest m low high =
    either 128 b
    (λ h. rw (le-ltb b 128 h, le-ltb 7 M m))
    (λ h.
    either 64 b
    (λ k. rw (lt-ltb b 128 h, le-ltb b 64 k, lt-leb 128 (b + 2 ^ (M - 1)) (either 128 (b + 2 ^ (M - 1)) (λ t. absurd (high t h)) (λ t. t))))
    (λ k. rw (lt-ltb b 128 h, lt-ltb b 64 k, le-ltb b (2 ^ (M - 1)) (either (2 ^ (M - 1)) b (λ t. t) (λ t. absurd (low t))))))

pub fifth-u32 : LastRule false 32 4 FifthU32
fifth-u32 = rule false 32 4 4 FifthU32 (omega arith) refl (λ b a. (pos b, u_last {N = 4} {n = b} (omega arith) (omega arith))) bad
  where
    bad : (b : ℕ) (rest : List ℕ) → (FifthU32 b → ⊥) → int_of false 4 (b ∷ rest) ≡ wrong
    bad b rest a = either 128 b (goes_on false 4 b rest (omega arith)) (λ h. u-wrong 4 b rest h (either 16 b (λ t. t) (λ t. absurd (a (omega arith)))))

pub fifth-s32 : LastRule true 32 4 FifthS32
fifth-s32 = rule true 32 4 4 FifthS32 (omega arith) refl good bad
  where
    good : (b : ℕ) → FifthS32 b → (z : ℤ) × Written true 4 (b ∷ []) z
    good b (inl a) = (pos b, s_low {N = 4} {n = b} (omega arith) (omega arith))
    good b (inr a) = (pos b -ℤ pos (2 ^ 7), s_high {N = 4} {n = b} (omega arith) (omega arith) (omega arith) refl)

    bad : (b : ℕ) (rest : List ℕ) → (FifthS32 b → ⊥) → int_of true 4 (b ∷ rest) ≡ wrong
    bad b rest a =
        s-wrong 4 b rest (omega arith) (λ t. a (inl (omega arith))) (λ t u. a (inr (omega arith)))

pub tenth-s64 : LastRule true 64 9 TenthS64
tenth-s64 = rule true 64 9 1 TenthS64 (omega arith) refl good bad
  where
    good : (b : ℕ) → TenthS64 b → (z : ℤ) × Written true 1 (b ∷ []) z
    good b (inl a) = (pos b, s_low {N = 1} {n = b} (omega arith) (omega arith))
    good b (inr a) = (pos b -ℤ pos (2 ^ 7), s_high {N = 1} {n = b} (omega arith) (omega arith) (omega arith) refl)

    bad : (b : ℕ) (rest : List ℕ) → (TenthS64 b → ⊥) → int_of true 1 (b ∷ rest) ≡ wrong
    bad b rest a =
        s-wrong 1 b rest (omega arith) (λ t. a (inl (omega arith))) (λ t u. a (inr (omega arith)))
