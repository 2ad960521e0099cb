-- A `match` on a number whose arms are numbers joined by `|`: its answer is right at an arm's keys, and where no key is the number,
-- by tests that antt computes. The keys are read off the function's own code, so that no proof writes them again.
use mathlib.Core.Path.{◌≡◌, subst, sym}
use mathlib.Core.Bool.{Bool, false, ◌||◌}
use mathlib.Core.List.{List, [], ◌∷◌}
use mathlib.Core.Logic.{inl, inr, ⊎_elim}
use Prim.Native.Nat.{ℕ, ◌≤◌}
use lib.Dec.{T, eqb, eqb→eq}
use lib.ListN.{get_or}
use mir.Syntax.{Body, skip, unreachable, seq, assign, block, loop, cond, switch, exit, return, call, call_v, lend_static, Arms, arm, default, no_default}
use mir.Val.{has_key}
use mir.Facts.{and_yes, or_yes}
use types.Run.{OneOf, hit}
use Rattle.opcode.specs.Lists.{up_from}
use Rattle.opcode.proofs.Every.{every, below, below-or-past}

abbrev keys_of : Arms → List (List ℕ)
keys_of (arm ks b bs) = ks ∷ keys_of bs
keys_of (default b) = []
keys_of no_default = []

-- the keys of each arm of the `match` that a body begins with
abbrev pub arms : Body → List (List ℕ)
arms (seq b b') = arms b
arms (switch c bs) = keys_of bs
arms skip = []
arms (assign p r) = []
arms (block b) = []
arms (loop b) = []
arms (cond c b b') = []
arms (exit n) = []
arms return = []
arms (call g cs p) = []
arms (call_v _ _ _ _) = []
arms (lend_static _ _ _) = []
arms unreachable = []

abbrev pub keys : Body → ℕ → List ℕ
keys b i = get_or (arms b) i []

-- as the default knows it: the number is no key of any arm
abbrev pub Missed : Type 0 → List (List ℕ) → ℕ → Type 0
Missed N [] x = N
Missed N (ks ∷ kss) x = Missed (N × (OneOf ks x → ⊥)) kss x

-- some arm has the number
abbrev pub any_key : List (List ℕ) → ℕ → Bool
any_key [] x = false
any_key (ks ∷ kss) x = has_key ks x || any_key kss x

pub missed : (N : Type 0) (kss : List (List ℕ)) (x : ℕ) → Missed N kss x → N × (T (any_key kss x) → ⊥)
missed N [] x n = (n, λ t. t)
missed N (ks ∷ kss) x m =
    let deeper = missed (N × (OneOf ks x → ⊥)) kss x m in
    (deeper.0.0, λ t. ⊎_elim (λ h. deeper.0.1 (hit ks x h)) deeper.1 (or_yes (has_key ks x) (any_key kss x) t))

module _ (f : ℕ → ℕ) where
  abbrev pub answers : ℕ → List ℕ → Bool
  answers v ks = every (λ k. eqb v (f k)) ks

  at_key : {v k x : ℕ} → T (eqb v (f k)) → x ≡ k → v ≡ f x
  at_key {v} {k} t e = subst (λ (y : ℕ). v ≡ f y) (sym e) (eqb→eq v (f k) t)

  among : (ks : List ℕ) {v x : ℕ} → T (answers v ks) → OneOf ks x → v ≡ f x
  among [] t h = absurd h
  among (k ∷ []) {v} t e = at_key (and_yes (eqb v (f k)) (answers v []) t).0 e
  among (k ∷ k' ∷ ks) {v} t (inl e) = at_key (and_yes (eqb v (f k)) (answers v (k' ∷ ks)) t).0 e
  among (k ∷ k' ∷ ks) {v} t (inr h) = among (k' ∷ ks) (and_yes (eqb v (f k)) (answers v (k' ∷ ks)) t).1 h

  -- arm i answers v
  pub in-arm : (b : Body) (i : ℕ) {v x : ℕ} → T (answers v (keys b i)) → OneOf (keys b i) x → v ≡ f x
  in-arm b i = among (keys b i)

  -- every number below n is a key, or v is its answer
  abbrev pub others : ℕ → List (List ℕ) → ℕ → Bool
  others v kss n = every (λ k. any_key kss k || eqb v (f k)) (up_from 0 n)

  -- the default answers v
  pub past-arms : (b : Body) (n : ℕ) {v x : ℕ} → T (others v (arms b) n) → (n ≤ x → f x ≡ v) → Missed (Unit {0}) (arms b) x → v ≡ f x
  past-arms b n {v} {x} t beyond m =
      ⊎_elim
      (λ l. ⊎_elim (λ h. absurd ((missed (Unit {0}) (arms b) x m).1 h)) (eqb→eq v (f x))
      (or_yes (any_key (arms b) x) (eqb v (f x)) (below (λ k. any_key (arms b) k || eqb v (f k)) n t x l)))
      (λ h. sym (beyond h))
      (below-or-past n x)
