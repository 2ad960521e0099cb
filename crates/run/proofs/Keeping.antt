-- The ends that are kept: each word is empty or true, and stays so.
use Prim.Native.Nat.{ℕ, zero, suc, ◌+◌, ◌*◌, ◌<◌}
use mathlib.Core.Path.{◌≡◌, refl, ap, sym, ◌∙◌, subst}
use mathlib.Core.List.{List}
use mathlib.Core.Option.{some}
use native.Mathlib.Decide.{ℕ_discrete}
use native.Mathlib.Omega.{arith}
use lib.ListN.{get_or, set, replicate, length-set, length-replicate}
use lib.Seq.{get_or-set_same, get_or-set_other}
use Rattle.leb128.specs.Bytes.{bytes}
use Rattle.limits.specs.Limits.{file_limit}
use Rattle.standard.specs.Closing.{close}
use Rattle.standard.proofs.Closings.{closes-found}
use Rattle.standard.proofs.Unwinding.{any-room}
use Rattle.closing.specs.Search.{end_of}
use Rattle.closing.proofs.Exact.{finds}
use Rattle.run.specs.Inner.Ends.{end_count, body_in, end_in, Kept, Closable}

-- at first all are empty
none_in : (n k : ℕ) → ◌≡◌ {A = ℕ} (get_or (replicate n 0) k 0) 0
none_in zero k = refl
none_in (suc n) zero = refl
none_in (suc n) (suc k) = none_in n k

pub none_kept : (s : List ℕ) → Kept s (replicate end_count 0)
none_kept s = record { long = length-replicate {A = ℕ} end_count 0; each = λ k l. absurd (let z : ⊥ = omega (arith, l, none_in end_count k) in z) }

module _ {s : List ℕ} {body room : ℕ} (C : Closable s body room) {words : List ℕ} (K : Kept s words) where
  pub kept-true : (k : ℕ) → body_in (get_or words k 0) ≡ body → close (get_or s 3 0) s body ≡ some (end_in (get_or words k 0))
  kept-true k e = ap (close (get_or s 3 0) s) (sym e) ∙ K.each k (omega (arith, e, C.late))

  module _ (b : bytes s) {q : ℕ} (found : q ≡ end_of s room body) where
    pub is-place : q ≡ C.place
    is-place = found ∙ finds b C.closes

    pub found-true : close (get_or s 3 0) s body ≡ some q
    found-true = closes-found (get_or s 3 0) s (any-room C.closes) ∙ ap some (sym is-place)

    pub fits : file_limit * body + q < 4294967296
    fits = omega (arith, is-place, C.body_small, C.place_small)

    pub kept_more : (k w : ℕ) → k < end_count → w ≡ file_limit * body + q → Kept s (set words k w)
    kept_more k w l e = record { long = length-set words k w ∙ K.long; each = by }
      where
        small : q < file_limit
        small = omega (arith, is-place, C.place_small)

        Says : ℕ → Type 0
        Says x = 0 < body_in x → close (get_or s 3 0) s (body_in x) ≡ some (end_in x)

        here : Says w
        here _ =
            let a : body_in w ≡ body = omega (arith, e, small) in
            let c : end_in w ≡ q = omega (arith, e, small) in
            ap (close (get_or s 3 0) s) a ∙ found-true ∙ ap some (sym c)

        by : (j : ℕ) → Says (get_or (set words k w) j 0)
        by j =
            elim (ℕ_discrete k j) [
              | yes f ↦ subst Says (sym (ap (λ (x : ℕ). get_or (set words k w) x 0) (sym f) ∙ get_or-set_same words k w 0 (omega (arith, l, K.long)))) here
              | no d ↦ subst Says (sym (get_or-set_other words k j w 0 (λ f. d (sym f)))) (K.each j)
            ]
