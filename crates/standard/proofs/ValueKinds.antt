-- Kinds of values in a list: the n-th of them, one set anew, all of them turned round, and the test that `end` makes.
use Prim.Native.Nat.{ℕ, zero, suc, ◌<◌}
use mathlib.Core.Path.{◌≡◌, refl, ap, ap₂}
use mathlib.Core.Bool.{Bool, true, false, ◌&&◌}
use mathlib.Core.List.{List, [], ◌∷◌, map, reverse, reverse_aux}
use native.Mathlib.Omega.{arith}
use lib.Dec.{eqb}
use lib.ListN.{length, get_or}
use borrow.Author.Tests.{eq-eqb, eqb-true}
use Rattle.opcode.specs.Kind.{Kind, kind_byte}
use Rattle.opcode.proofs.Effects.{kind-once}
use Rattle.machine.specs.Value.{Value, I32, kind_of, AllInRange}
use Rattle.machine.specs.Exec.{of_kinds}
use Rattle.rules.specs.Typing.{Local, first, later}

-- ---- the n-th

pub kind_at : (vs : List Value) (n : ℕ) → n < length vs → Local (map kind_of vs) n (kind_of (get_or vs n (I32 0)))
kind_at [] n l = absurd (let z : ⊥ = omega arith in z)
kind_at (v ∷ vs) zero l = first
kind_at (v ∷ vs) (suc n) l = later (kind_at vs n (omega arith))

pub local-inside : {ls : List Kind} {n : ℕ} {k : Kind} → Local ls n k → n < length ls
local-inside first = omega arith
local-inside (later l) = let deeper = local-inside l in omega arith

pub local-kind : {k : Kind} {n : ℕ} (vs : List Value) → Local (map kind_of vs) n k → kind_of (get_or vs n (I32 0)) ≡ k
local-kind [] never = elim never [ ]
local-kind (v ∷ vs) first = refl
local-kind (v ∷ vs) (later l) = local-kind vs l

-- ---- turned round

turned-kinds : (vs ws : List Value) → map kind_of (reverse_aux vs ws) ≡ reverse_aux (map kind_of vs) (map kind_of ws)
turned-kinds [] ws = refl
turned-kinds (v ∷ vs) ws = turned-kinds vs (v ∷ ws)

pub reverse-kinds : (vs : List Value) → map kind_of (reverse vs) ≡ reverse (map kind_of vs)
reverse-kinds vs = turned-kinds vs []

turned-range : (vs ws : List Value) → AllInRange vs → AllInRange ws → AllInRange (reverse_aux vs ws)
turned-range [] ws a b = b
turned-range (v ∷ vs) ws a b = turned-range vs (v ∷ ws) a.1 (a.0, b)

pub reverse-range : (vs : List Value) → AllInRange vs → AllInRange (reverse vs)
reverse-range vs a = turned-range vs [] a tt

-- ---- the test that `end` makes

pub kinds-fit : (vs : List Value) (ks : List Kind) → map kind_of vs ≡ ks → of_kinds vs ks ≡ true
unfolding of_kinds
kinds-fit [] [] e = refl
kinds-fit [] (k ∷ ks) e = absurd (let z : ◌≡◌ {A = ℕ} 0 1 = cc in omega arith)
kinds-fit (v ∷ vs) [] e = absurd (let z : ◌≡◌ {A = ℕ} 0 1 = cc in omega arith)
kinds-fit (v ∷ vs) (k ∷ ks) e =
    let same : kind_of v ≡ k = cc in
    ap₂ ◌&&◌ (eq-eqb (kind_byte (kind_of v)) (kind_byte k) (ap kind_byte same)) (kinds-fit vs ks (cc))

pub fit-kinds : (vs : List Value) (ks : List Kind) → of_kinds vs ks ≡ true → map kind_of vs ≡ ks
unfolding of_kinds
fit-kinds [] [] e = refl
fit-kinds [] (k ∷ ks) e = absurd (let z : ◌≡◌ {A = ℕ} 0 1 = cc in omega arith)
fit-kinds (v ∷ vs) [] e = absurd (let z : ◌≡◌ {A = ℕ} 0 1 = cc in omega arith)
fit-kinds (v ∷ vs) (k ∷ ks) e = at (eqb (kind_byte (kind_of v)) (kind_byte k)) refl e (fit-kinds vs ks)
  where
    at : (t : Bool) → eqb (kind_byte (kind_of v)) (kind_byte k) ≡ t → t && of_kinds vs ks ≡ true → (of_kinds vs ks ≡ true → map kind_of vs ≡ ks) → kind_of v ∷ map kind_of vs ≡ k ∷ ks
    at true q f deeper = ap₂ ◌∷◌ (kind-once (eqb-true (kind_byte (kind_of v)) (kind_byte k) q)) (deeper f)
    at false q f deeper = absurd (let z : ◌≡◌ {A = ℕ} 0 1 = cc in omega arith)
