-- Two ways to part one list, where one part has the same length in both.
use mathlib.Core.Path.{◌≡◌, refl, ap, ap₂, sym, ◌∙◌}
use mathlib.Core.List.{List, [], ◌∷◌, ◌++◌}
use native.Mathlib.Omega.{arith}
use lib.ListN.{length, length-append}

module _ {A : Type 0} where
  pub parts-once : (xs xs' ys ys' : List A) → length xs ≡ length xs' → xs ++ ys ≡ xs' ++ ys' → (xs ≡ xs') × (ys ≡ ys')
  parts-once [] [] ys ys' l e = (refl, e)
  parts-once [] (x ∷ xs') ys ys' l e = absurd (let z : ⊥ = omega arith in z)
  parts-once (x ∷ xs) [] ys ys' l e = absurd (let z : ⊥ = omega arith in z)
  parts-once (x ∷ xs) (x' ∷ xs') ys ys' l e =
      let deeper = parts-once xs xs' ys ys' (omega arith) (cc) in
      let same : x ≡ x' = cc in
      (ap₂ ◌∷◌ same deeper.0, deeper.1)

  -- the same from behind
  pub ends-once : (xs xs' ys ys' : List A) → length ys ≡ length ys' → xs ++ ys ≡ xs' ++ ys' → (xs ≡ xs') × (ys ≡ ys')
  ends-once xs xs' ys ys' l e =
      parts-once xs xs' ys ys' (let both = sym (length-append xs ys) ∙ ap length e ∙ length-append xs' ys' in omega arith) e
