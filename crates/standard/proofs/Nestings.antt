-- Labels and frames stand in the same order: as many, and over as many values.
use Prim.Native.Nat.{ℕ, suc}
use mathlib.Core.Path.{◌≡◌, refl, ap}
use mathlib.Core.List.{List, [], ◌∷◌}
use native.Mathlib.Omega.{arith}
use lib.ListN.{length, length-map, length-append, length-reverse}
use Rattle.opcode.specs.Kind.{Kind}
use Rattle.machine.specs.Value.{kind_of}
use Rattle.rules.specs.Header.{Header}
use Rattle.rules.specs.Typing.{Frame, holding, all_values, Target, innermost, outer}
pub use Rattle.rules.proofs.Typings.{live-has}
use Rattle.standard.specs.Standard.{Label, count_under}
use Rattle.standard.specs.Safety.{Nested, outermost, inside}

module _ {s : List ℕ} {h : Header} where
  pub nested-many : {fs : List Frame} {ls : List Label} → Nested s h fs ls → length fs ≡ suc (length ls)
  nested-many (outermost a b) = refl
  nested-many (inside a b c d e n) = ap suc (nested-many n)

  pub nested-under : {f : Frame} {fs : List Frame} {ls : List Label} → Nested s h (f ∷ fs) ls → count_under ls ≡ length (all_values fs)
  nested-under (outermost a b) = refl
  nested-under (inside {g = g} {fs} {l} a b c d e n) =
      omega (arith, nested-under n, ap length c, length-map l.under kind_of, length-reverse g.values, length-append (all_values fs) g.values)

  -- other values in the block make no other labels
  pub nested_same : {f : Frame} {fs : List Frame} {ls : List Label} (ks : List Kind) → Nested s h (f ∷ fs) ls → Nested s h (holding f ks ∷ fs) ls
  nested_same ks (outermost a b) = outermost a b
  nested_same ks (inside a b c d e n) = inside a b c d e n

  pub nested-none : {f : Frame} {ls : List Label} → Nested s h (f ∷ []) ls → ls ≡ []
  nested-none (outermost a b) = refl

pub no_target : {n : ℕ} {g : Frame} {fs : List Frame} → Target fs n g → fs ≡ [] → ⊥
no_target innermost e = let z : ◌≡◌ {A = ℕ} 0 1 = cc in omega arith
no_target (outer t) e = let z : ◌≡◌ {A = ℕ} 0 1 = cc in omega arith
