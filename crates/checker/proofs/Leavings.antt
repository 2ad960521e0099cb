-- Results left, one by one.
use Prim.Native.Nat.{ℕ, ◌+◌, ◌/◌, ◌%◌, ◌≤◌, ◌<◌}
use mathlib.Core.Path.{◌≡◌, refl, sym, ap, subst, ◌∙◌}
use mathlib.Core.List.{List, [], ◌∷◌, ◌++◌, map, append-nil, append_assoc}
use native.Mathlib.Omega.{arith}
use lib.ListN.{length, set, drop, length-append, length-set}
use Rattle.std.specs.Prelude.{Ok, Err}
use Rattle.card.specs.Card.{DEEP}
use Rattle.limits.specs.Limits.{stack_limit}
use Rattle.operation.specs.Vector.{number}
use Rattle.opcode.specs.Kind.{Kind, kind_byte}
use Rattle.opcode.proofs.Effects.{kind-range}
use Rattle.checker.specs.Walk.{KindBytes}
use Rattle.checker.specs.Inner.Stack.{Leaves, too_many, left as left-all}
use Rattle.checker.proofs.Held.{one_set, kept_more, held_more}

pub record Leaving (below outs : List Kind) (kinds : List ℕ) (left depth : ℕ) : Type 0 where
  pub done : List Kind
  pub ahead : List Kind
  pub parts : outs ≡ done ++ ahead
  pub digits : number (map kind_byte ahead) ≡ left
  pub holds : KindBytes kinds depth (below ++ done)

pub record Leaves-on (results : ℕ) (kinds₀ : List ℕ) (base : ℕ) (kinds : List ℕ) (left depth : ℕ) : Type 0 where
  pub long : length kinds ≡ stack_limit
  pub most : depth ≤ stack_limit
  pub kept : drop depth kinds ≡ drop depth kinds₀
  pub so_far : (below outs : List Kind) → KindBytes kinds₀ base below → number (map kind_byte outs) ≡ results → Leaving below outs kinds left depth

pub leaves : (results : ℕ) (kinds : List ℕ) (base : ℕ) → length kinds ≡ stack_limit → base ≤ stack_limit → Leaves-on results kinds base kinds results base
leaves results kinds base l m =
    record {
      long = l;
      most = m;
      kept = refl;
      so_far = λ below outs h e.
          record { done = []; ahead = outs; parts = refl; digits = e; holds = subst (KindBytes kinds base) (sym (append-nil below)) h };
    }

module _ {results base : ℕ} {kinds₀ kinds : List ℕ} {left depth : ℕ} (w : Leaves-on results kinds₀ base kinds left depth) where
  step : {below outs : List Kind} (done ahead : List Kind) → outs ≡ done ++ ahead → number (map kind_byte ahead) ≡ left → KindBytes kinds depth (below ++ done)
      → (left ≡ 0 → ⊥) → depth < stack_limit → Leaving below outs (set kinds depth (left % 256)) (left / 256) (depth + 1)
  step done [] p d h z l = absurd (z (sym d))
  step {below} done (k ∷ ahead) p d h z l =
      let byte : kind_byte k ≡ left % 256 = omega (arith, kind-range k) in
      record {
        done = done ++ (k ∷ []);
        ahead = ahead;
        parts = p ∙ sym (append_assoc done (k ∷ []) ahead);
        digits = omega (arith, kind-range k);
        holds = subst (λ (b : ℕ). KindBytes (set kinds depth b) (depth + 1) (below ++ (done ++ (k ∷ [])))) byte
            (subst (KindBytes (set kinds depth (kind_byte k)) (depth + 1)) (append_assoc below done (k ∷ [])) (held_more h (omega (arith, w.long)) k));
      }

  pub leaves-more : (left ≡ 0 → ⊥) → depth < stack_limit → Leaves-on results kinds₀ base (set kinds depth (left % 256)) (left / 256) (depth + 1)
  leaves-more z l =
      record {
        long = length-set kinds depth (left % 256) ∙ w.long;
        most = omega arith;
        kept = one_set kinds depth (left % 256) ∙ kept_more kinds₀ kinds depth w.kept;
        so_far = λ below outs h e. let s = w.so_far below outs h e in step s.done s.ahead s.parts s.digits s.holds z l;
      }

  module _ (below outs : List Kind) (h : KindBytes kinds₀ base below) (e : number (map kind_byte outs) ≡ results) where
    all_of : (done ahead : List Kind) → outs ≡ done ++ ahead → number (map kind_byte ahead) ≡ left → KindBytes kinds depth (below ++ done) → left ≡ 0 → Leaves below outs kinds (Ok depth)
    all_of done [] p d g z =
        let same : below ++ done ≡ below ++ outs = ap (λ (x : List Kind). below ++ x) (sym (p ∙ append-nil done)) in
        left-all (omega (arith, g.many, ap length same, w.most)) (subst (KindBytes kinds depth) same g)
    all_of done (k ∷ ahead) p d g z = absurd (let no : ⊥ = omega (arith, kind-range k) in no)

    pub left-now : left ≡ 0 → Leaves below outs kinds (Ok depth)
    left-now z = let s = w.so_far below outs h e in all_of s.done s.ahead s.parts s.digits s.holds z

    over-of : (done ahead : List Kind) → outs ≡ done ++ ahead → number (map kind_byte ahead) ≡ left → KindBytes kinds depth (below ++ done) → (left ≡ 0 → ⊥) → depth ≡ stack_limit
        → stack_limit < length (below ++ outs)
    over-of done [] p d g z m = absurd (z (sym d))
    over-of done (k ∷ ahead) p d g z m = omega (arith, g.many, length-append below done, length-append below outs, ap length p, length-append done (k ∷ ahead))

    pub left_over : {after : List ℕ} → (left ≡ 0 → ⊥) → depth ≡ stack_limit → Leaves below outs after (Err DEEP)
    left_over z m = let s = w.so_far below outs h e in too_many (over-of s.done s.ahead s.parts s.digits s.holds z m)
