-- Steps compose: those from where a run has come to are the next ones of the run.
use Prim.Native.Nat.{ℕ, zero, suc, ◌+◌}
use mathlib.Core.Path.{◌≡◌, refl, ap, ◌∙◌}
use mathlib.Core.List.{List}
use native.Mathlib.Nat.{add-zero}
use native.Mathlib.Omega.{arith}
use Rattle.rules.specs.Header.{Header}
use Rattle.standard.specs.Standard.{Config, going, step, onward, runs}

module _ (s : List ℕ) (h : Header) where
  pub no_steps : (c : Config) → runs s h 0 c ≡ going c
  unfolding runs
  no_steps c = refl

  pub runs-along : (j k : ℕ) (c d : Config) → runs s h j c ≡ going d → runs s h (j + k) c ≡ runs s h k d
  unfolding runs
  runs-along j zero c d e = ap (λ (n : ℕ). runs s h n c) (add-zero j) ∙ e
  runs-along j (suc k) c d e =
      let more : j + suc k ≡ suc (j + k) = omega arith in
      ap (λ (n : ℕ). runs s h n c) more ∙ ap (onward s h) (runs-along j k c d e)

  pub one_more : (k : ℕ) (b c : Config) → runs s h k b ≡ going c → runs s h (suc k) b ≡ step s h c
  unfolding runs
  one_more k b c e = ap (onward s h) e
