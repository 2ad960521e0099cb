-- Fields are parted by blanks: of joined words no other words are joined.
use Prim.Native.Nat.{ℕ, ◌+◌, ◌*◌, ◌≤◌}
use mathlib.Core.Path.{◌≡◌, refl, ap₂, sym}
use mathlib.Core.List.{List, [], ◌∷◌, ◌++◌}
use native.Mathlib.Omega.{arith}
use lib.ListN.{length, length-append}
use Rattle.text.specs.Words.{blank, joined, Every, Without, AllWithout}

pub every_append : {A : Type 0} (P : A → Type 0) (xs ys : List A) → Every P xs → Every P ys → Every P (xs ++ ys)
every_append P [] ys p q = q
every_append P (x ∷ xs) ys p q = (p.0, every_append P xs ys p.1 q)

pub every_map : {A : Type 0} {P Q : A → Type 0} → ((x : A) → P x → Q x) → (xs : List A) → Every P xs → Every Q xs
every_map f [] p = tt
every_map f (x ∷ xs) p = (f x p.0, every_map f xs p.1)

pub cut-once : (b : ℕ) (xs ys : List ℕ) {r r' : List ℕ} → Without b xs → Without b ys → xs ++ b ∷ r ≡ ys ++ b ∷ r' → (xs ≡ ys) × (r ≡ r')
cut-once b [] [] p q e = (refl, cc)
cut-once b [] (y ∷ ys) p q e = let same : y ≡ b = cc in absurd (q.0 same)
cut-once b (x ∷ xs) [] p q e = let same : x ≡ b = cc in absurd (p.0 same)
cut-once b (x ∷ xs) (y ∷ ys) {r} {r'} p q e =
    let first : x ≡ y = cc in
    let rest : xs ++ b ∷ r ≡ ys ++ b ∷ r' = cc in
    let same = cut-once b xs ys p.1 q.1 rest in
    (ap₂ (λ (z : ℕ) (zs : List ℕ). z ∷ zs) first same.0, same.1)

without-none : (b : ℕ) (xs ys r : List ℕ) → Without b xs → xs ≡ ys ++ b ∷ r → ⊥
without-none b [] [] r p e = let z : ◌≡◌ {A = ℕ} 0 1 = cc in omega arith
without-none b [] (y ∷ ys) r p e = let z : ◌≡◌ {A = ℕ} 0 1 = cc in omega arith
without-none b (x ∷ xs) [] r p e = p.0 (cc)
without-none b (x ∷ xs) (y ∷ ys) r p e = let rest : xs ≡ ys ++ b ∷ r = cc in without-none b xs ys r p.1 rest

pub joined_once : (w : List ℕ) (ws : List (List ℕ)) (v : List ℕ) (vs : List (List ℕ)) → AllWithout blank (w ∷ ws) → AllWithout blank (v ∷ vs)
    → joined (w ∷ ws) ≡ joined (v ∷ vs) → (w ≡ v) × (ws ≡ vs)
unfolding joined
joined_once w [] v [] p q e = (e, refl)
joined_once w [] v (v' ∷ vs) p q e = absurd (without-none blank w v (joined (v' ∷ vs)) p.0 e)
joined_once w (w' ∷ ws) v [] p q e = absurd (without-none blank v w (joined (w' ∷ ws)) q.0 (sym e))
joined_once w (w' ∷ ws) v (v' ∷ vs) p q e =
    let here = cut-once blank w v p.0 q.0 e in
    let rest = joined_once w' ws v' vs p.1 q.1 here.1 in
    (here.0, ap₂ (λ (z : List ℕ) (zs : List (List ℕ)). z ∷ zs) rest.0 rest.1)

pub joined-without : (b : ℕ) → (blank ≡ b → ⊥) → (ws : List (List ℕ)) → AllWithout b ws → Without b (joined ws)
unfolding joined
joined-without b f [] p = tt
joined-without b f (w ∷ []) p = p.0
joined-without b f (w ∷ v ∷ vs) p = every_append (λ x. x ≡ b → ⊥) w (blank ∷ joined (v ∷ vs)) p.0 (f, joined-without b f (v ∷ vs) p.1)

-- a byte more for each word
pub joined_length : (k : ℕ) (ws : List (List ℕ)) → Every (λ w. length w ≤ k) ws → length (joined ws) ≤ length ws * (k + 1)
unfolding joined
joined_length k [] p = omega arith
joined_length k (w ∷ []) p = omega (arith, p.0)
joined_length k (w ∷ v ∷ vs) p = omega (arith, p.0, length-append w (blank ∷ joined (v ∷ vs)), joined_length k (v ∷ vs) p.1)
