-- Laws of `Appends`, for callers.
use Prim.Native.Nat.{ℕ, ◌+◌, ◌≤◌, ◌<◌}
use mathlib.Core.Path.{◌≡◌, refl, ap, sym, ◌∙◌, subst}
use mathlib.Core.List.{List, [], ◌∷◌, ◌++◌}
use native.Mathlib.Omega.{arith}
use native.Mathlib.Numerals.{add-one}
use lib.ListN.{length, take, drop, get_or, length-append}
use lib.Seq.{sets, length-sets, sets-eq, length-take-le, take-suc, take_at}
use Rattle.buffer.proofs.Writing.{sets-append}
use Rattle.text.specs.Append.{Appends, fits, no_room}

pub appended : {xs out out' : List ℕ} {at n : ℕ} → Appends xs out at n out' → at + length xs ≤ length out → (n ≡ at + length xs) × (out' ≡ sets out at xs)
appended (fits h) room = (refl, refl)
appended (no_room h) room = absurd (let none : ⊥ = omega arith in none)

pub not-appended : {xs out out' : List ℕ} {at n : ℕ} → Appends xs out at n out' → length out < at + length xs → (n ≡ at) × (out' ≡ out)
not-appended (fits h) short = absurd (let none : ⊥ = omega arith in none)
not-appended (no_room h) short = (refl, refl)

pub length-kept : {xs out out' : List ℕ} {at n : ℕ} → Appends xs out at n out' → length out' ≡ length out
length-kept {xs} {out} {at = at} (fits h) = length-sets out at xs
length-kept (no_room h) = refl

pub appends-once : {xs out a b : List ℕ} {at m n : ℕ} → Appends xs out at m a → Appends xs out at n b → (m ≡ n) × (a ≡ b)
appends-once (fits h) (fits k) = (refl, refl)
appends-once (fits h) (no_room k) = absurd (let none : ⊥ = omega arith in none)
appends-once (no_room h) (fits k) = absurd (let none : ⊥ = omega arith in none)
appends-once (no_room h) (no_room k) = (refl, refl)

pub with-room : {xs out out' : List ℕ} {at n : ℕ} → at + length xs ≤ length out → n ≡ at + length xs → out' ≡ sets out at xs → Appends xs out at n out'
with-room {xs} {out} {out'} {at} {n} room place made =
    subst (λ (k : ℕ). Appends xs out at k out') (sym place) (subst (λ (l : List ℕ). Appends xs out at (at + length xs) l) (sym made) (fits room))

-- ---- bytes after bytes

-- the text so far
pub take-sets : (out : List ℕ) (at : ℕ) (xs : List ℕ) → at + length xs ≤ length out → take (at + length xs) (sets out at xs) ≡ take at out ++ xs
take-sets out at xs h =
    let long : length (take at out ++ xs) ≡ at + length xs =
    length-append (take at out) xs ∙ ap (λ (k : ℕ). k + length xs) (length-take-le at out (omega arith)) in
    ap (take (at + length xs)) (sets-eq xs out at h) ∙ take_at (take at out ++ xs) (drop (at + length xs) out) (at + length xs) long

pub text-grows : {xs out out' : List ℕ} {at n : ℕ} → Appends xs out at n out' → at + length xs ≤ length out → take n out' ≡ take at out ++ xs
text-grows {xs} {out} {at = at} (fits h) room = take-sets out at xs h
text-grows (no_room h) room = absurd (let none : ⊥ = omega arith in none)

pub room-left : {xs out out' : List ℕ} {at n : ℕ} (k : ℕ) → Appends xs out at n out' → at + (length xs + k) ≤ length out → n + k ≤ length out'
room-left {xs} {out} {at = at} k (fits h) room = omega (arith, length-sets out at xs)
room-left k (no_room h) room = absurd (let none : ⊥ = omega arith in none)

pub none-appended : (out : List ℕ) (at : ℕ) → at ≤ length out → Appends [] out at at out
none-appended out at h = with-room (omega arith) (omega arith) refl

pub both-appended : {xs ys out out' out'' : List ℕ} {at m n : ℕ} → Appends xs out at m out' → Appends ys out' m n out''
    → at + (length xs + length ys) ≤ length out
    → Appends (xs ++ ys) out at n out''
both-appended {xs} {ys} {out} {at = at} (fits h) (fits k) room =
    with-room (omega (arith, length-append xs ys)) (omega (arith, length-append xs ys)) (sets-append xs out ys at)
both-appended {xs} {ys} {out} {at = at} (fits h) (no_room k) room = absurd (let none : ⊥ = omega (arith, length-sets out at xs) in none)
both-appended (no_room h) q room = absurd (let none : ⊥ = omega arith in none)

-- ---- a loop of n turns, of which i are done, and f i is what they have written

pub record Growing (f : ℕ → List ℕ) (n : ℕ) (out : List ℕ) (at to : ℕ) (out' : List ℕ) (i : ℕ) : Type 0 where
  pub most : i ≤ n
  pub made : Appends (f i) out at to out'

pub begins : (f : ℕ → List ℕ) (n : ℕ) (out : List ℕ) (at : ℕ) → [] ≡ f 0 → at ≤ length out → Growing f n out at at out 0
begins f n out at e h = record { most = omega arith; made = subst (λ (l : List ℕ). Appends l out at at out) e (none-appended out at h) }

pub goes_on : {f : ℕ → List ℕ} {n : ℕ} {ys out out' out'' : List ℕ} {at to next i : ℕ} → Growing f n out at to out' i → i < n → f i ++ ys ≡ f (i + 1)
    → at + length (f (i + 1)) ≤ length out → Appends ys out' to next out'' → Growing f n out at next out'' (i + 1)
goes_on {f} {ys = ys} {out} {out'' = out''} {at} {next = next} {i} g h e room q =
    let long : length (f i) + length ys ≡ length (f (i + 1)) = sym (length-append (f i) ys) ∙ ap length e in
    record { most = omega arith; made = subst (λ (l : List ℕ). Appends l out at next out'') e (both-appended g.made q (omega arith)) }

pub ends : {f : ℕ → List ℕ} {n : ℕ} {out out' : List ℕ} {at to i : ℕ} → Growing f n out at to out' i → n ≤ i → Appends (f n) out at to out'
ends {f} {n} {out} {out'} {at} {to} {i} g h =
    let last : i ≡ n = omega (arith, g.most) in
    subst (λ (k : ℕ). Appends (f k) out at to out') last g.made

-- what a loop over bytes has passed
pub take_more : (xs : List ℕ) (i : ℕ) → i < length xs → take i xs ++ get_or xs i 0 ∷ [] ≡ take (i + 1) xs
take_more xs i h = rw (add-one, take-suc xs i 0)
