-- Arrays: what is as it was, and kinds that are held as bytes.
use Prim.Native.Nat.{ℕ, ◌+◌, ◌≤◌, ◌<◌}
use mathlib.Core.Path.{◌≡◌, refl, sym, ap, ◌∙◌}
use mathlib.Core.List.{List, [], ◌∷◌, ◌++◌, map, map-append, append_assoc}
use native.Mathlib.Omega.{arith}
use lib.ListN.{length, get_or, set, take, drop, length-append, length-map, get_or-append}
use lib.Seq.{take_at, get_or_at, set_at, get_or-drop, drop-set-lt, drop-drop}
use Rattle.opcode.specs.Kind.{Kind, kind_byte}
use Rattle.checker.specs.Walk.{KindBytes}

-- ---- what is as it was, from a place on

pub one_set : (l : List ℕ) (n v : ℕ) → drop (n + 1) (set l n v) ≡ drop (n + 1) l
one_set l n v = drop-set-lt (n + 1) l n v (omega arith)

pub kept_more : (before after : List ℕ) (n : ℕ) → drop n after ≡ drop n before → drop (n + 1) after ≡ drop (n + 1) before
kept_more before after n e = sym (drop-drop 1 n after) ∙ ap (drop 1) e ∙ drop-drop 1 n before

-- ---- kinds

-- the last of some
pub split-last : (l : List Kind) → 0 < length l → (front : List Kind) × (k : Kind) × (l ≡ front ++ (k ∷ []))
split-last [] h = absurd (let z : ⊥ = omega arith in z)
split-last (k ∷ []) h = ([], k, refl)
split-last (j ∷ k ∷ l) h = let d = split-last (k ∷ l) (omega arith) in (j ∷ d.0, d.1, ap (λ (x : List Kind). j ∷ x) d.2)

module _ {bytes : List ℕ} {n : ℕ} {κs : List Kind} (h : KindBytes bytes n κs) where
  pub held-long : n ≤ length bytes
  held-long = omega (arith, ap length h.here, length-append (map kind_byte κs) h.rest, length-map κs kind_byte, h.many)

  pub held : (j : ℕ) → j < n → get_or bytes j 0 ≡ get_or (map kind_byte κs) j 0
  held j l = ap (λ (x : List ℕ). get_or x j 0) h.here ∙ get_or-append (map kind_byte κs) h.rest 0 j (omega (arith, length-map κs kind_byte, h.many))

  pub held-front : take n bytes ≡ map kind_byte κs
  held-front = ap (take n) h.here ∙ take_at (map kind_byte κs) h.rest n (length-map κs kind_byte ∙ h.many)

  -- a part of them, and what follows it
  parted : (below above : List Kind) → κs ≡ below ++ above → bytes ≡ map kind_byte below ++ (map kind_byte above ++ h.rest)
  parted below above e =
      h.here ∙ ap (λ (x : List Kind). map kind_byte x ++ h.rest) e ∙ ap (λ (x : List ℕ). x ++ h.rest) (map-append kind_byte below above)
      ∙ append_assoc (map kind_byte below) (map kind_byte above) h.rest

  pub held-part : (below above : List Kind) → κs ≡ below ++ above → KindBytes bytes (length below) below
  held-part below above e = record { many = refl; rest = map kind_byte above ++ h.rest; here = parted below above e }

  pub held_at : (below above : List Kind) (k : Kind) → κs ≡ below ++ (k ∷ above) → get_or bytes (length below) 0 ≡ kind_byte k
  held_at below above k e =
      ap (λ (x : List ℕ). get_or x (length below) 0) (parted below (k ∷ above) e)
      ∙ get_or_at (map kind_byte below) (kind_byte k) (map kind_byte above ++ h.rest) 0 (length below) (length-map below kind_byte)

  pushed : (rest : List ℕ) → h.rest ≡ rest → n < length bytes → (k : Kind) → KindBytes (set bytes n (kind_byte k)) (n + 1) (κs ++ (k ∷ []))
  pushed [] e l k = absurd (let z : ⊥ = omega (arith, ap length h.here, length-append (map kind_byte κs) h.rest, length-map κs kind_byte, h.many, ap length e) in z)
  pushed (b ∷ rest) e l k =
      record {
        many = omega (arith, length-append κs (k ∷ []), h.many);
        rest = rest;
        here = ap (λ (x : List ℕ). set x n (kind_byte k)) (h.here ∙ ap (λ (x : List ℕ). map kind_byte κs ++ x) e)
            ∙ set_at (map kind_byte κs) b rest (kind_byte k) n (length-map κs kind_byte ∙ h.many)
            ∙ sym (ap (λ (x : List ℕ). x ++ rest) (map-append kind_byte κs (k ∷ [])) ∙ append_assoc (map kind_byte κs) (kind_byte k ∷ []) rest);
      }

  -- one more
  pub held_more : n < length bytes → (k : Kind) → KindBytes (set bytes n (kind_byte k)) (n + 1) (κs ++ (k ∷ []))
  held_more = pushed h.rest refl

-- n kinds from a place of the strip on
pub held-from : (s : List ℕ) (from : ℕ) {n : ℕ} {κs : List Kind} → KindBytes (drop from s) n κs → (j : ℕ) → j < n → get_or s (from + j) 0 ≡ get_or (map kind_byte κs) j 0
held-from s from h j l = sym (get_or-drop from s j 0) ∙ held h j l
