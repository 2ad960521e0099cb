-- What frames stand for (specs/Core): operands that a frame has and those that a whole stack has, and what is counted of them.
use Prim.Native.Nat.{ℕ, ◌≤◌}
use mathlib.Core.Path.{◌≡◌, refl, ap, ap₂, sym, ◌∙◌}
use mathlib.Core.Bool.{Bool, true, false}
use mathlib.Core.List.{List, [], ◌∷◌, ◌++◌, append_assoc, append-nil}
use native.Mathlib.Omega.{arith}
use lib.ListN.{length, length-append}
use Rattle.opcode.specs.Kind.{Kind}
use Rattle.rules.specs.Typing.{Frame, opened, holding, deadened, branch_kinds, all_values, Target, innermost, outer, Has, all_known, any}
use Rattle.rules.specs.Core.{over, Fills, AllFill, none, each}

-- ---- two ways to part one list

data Split (u vs v ins : List Kind) : Type 0 where
  above : (b : List Kind) → vs ≡ b ++ ins → v ≡ u ++ b → Split u vs v ins
  across : (k : List Kind) → k ++ vs ≡ ins → u ≡ v ++ k → Split u vs v ins

more : {u vs v ins : List Kind} (x y : Kind) → x ≡ y → Split u vs v ins → Split (x ∷ u) vs (y ∷ v) ins
more x y e (above b p q) = above b p (ap₂ ◌∷◌ (sym e) q)
more x y e (across k p q) = across k p (ap₂ ◌∷◌ e q)

split : (u vs v ins : List Kind) → u ++ vs ≡ v ++ ins → Split u vs v ins
split [] vs v ins e = above v e refl
split (x ∷ u) vs [] ins e = across (x ∷ u) e refl
split (x ∷ u) vs (y ∷ v) ins e = more x y (cc (e)) (split u vs v ins (cc (e)))

pub no_front : (xs ys : List Kind) → xs ++ ys ≡ [] → (xs ≡ []) × (ys ≡ [])
no_front [] ys e = (refl, e)
no_front (x ∷ xs) ys e = absurd (let z : ◌≡◌ {A = ℕ} 0 1 = cc (e) in omega arith)

-- ---- operands

-- what a whole stack has on top, the frame has; and so it is left
pub record Taken (f : Frame) (v ins : List Kind) : Type 0 where
  pub below : List Kind
  pub under : List Kind
  pub has : Has f below ins
  pub left : v ≡ under ++ below
  pub none_live : f.dead ≡ false → under ≡ []

pub taken : {f g : Frame} (v ins : List Kind) → Fills f g → g.values ≡ v ++ ins → Taken f v ins
taken {f} {g} v ins w e = by (split w.under f.values v ins (sym (ap (λ (x : Frame). x.values) w.whole) ∙ e))
  where
    cut : (d : Bool) → f.dead ≡ d → (k : List Kind) → k ++ f.values ≡ ins → w.under ≡ v ++ k → Taken f v ins
    cut true d k p q =
        let not_live : f.dead ≡ false → v ≡ [] = λ l. absurd (let z : ◌≡◌ {A = ℕ} 0 1 = cc (l, d) in omega arith) in
        record { below = []; under = v; has = any k d p; left = sym (append-nil v); none_live = not_live }
    cut false d k p q =
        let both = no_front v k (sym q ∙ w.none_live d) in
        record { below = []; under = []; has = all_known (ap (λ (x : List Kind). x ++ f.values) (sym both.1) ∙ p); left = both.0; none_live = λ l. refl }

    by : Split w.under f.values v ins → Taken f v ins
    by (above b p q) = record { below = b; under = w.under; has = all_known p; left = q; none_live = w.none_live }
    by (across k p q) = cut f.dead refl k p q

-- what the frame has, some whole stack has, whatever is to be left under it
pub record Given (f : Frame) (w below ins : List Kind) : Type 0 where
  pub under : List Kind
  pub has : under ++ f.values ≡ (w ++ below) ++ ins
  pub none_live : f.dead ≡ false → under ≡ []

pub given : {f : Frame} {below ins : List Kind} (w : List Kind) → (f.dead ≡ false → w ≡ []) → Has f below ins → Given f w below ins
given {below = below} {ins} w l (all_known e) = record { under = w; has = ap (λ (x : List Kind). w ++ x) e ∙ sym (append_assoc w below ins); none_live = l }
given {f} {ins = ins} w l (any k d e) =
    record {
      under = w ++ k;
      has = append_assoc w k f.values ∙ ap (λ (x : List Kind). w ++ x) e ∙ ap (λ (x : List Kind). x ++ ins) (sym (append-nil w));
      none_live = λ live. absurd (let z : ◌≡◌ {A = ℕ} 0 1 = cc (live, d) in omega arith);
    }

-- ---- frames

-- what fills it holds other values over the same
pub held : {f g : Frame} (u : List Kind) {v : List Kind} (b : List Kind) {outs outs' : List Kind} → Fills f g → v ≡ u ++ b → outs' ≡ outs
    → (f.dead ≡ false → u ≡ [])
    → Fills (holding f (b ++ outs)) (holding g (v ++ outs'))
held u b {outs = outs} w e o l =
    record {
      under = u;
      whole = ap₂ (λ (x : Frame) (ks : List Kind). holding x ks) w.whole (ap₂ (λ (x y : List Kind). x ++ y) e o ∙ append_assoc u b outs);
      none_live = l;
    }

pub filled : {f : Frame} (u : List Kind) → (f.dead ≡ false → u ≡ []) → Fills f (over u f)
filled u l = record { under = u; whole = refl; none_live = l }

-- a branch goes to the same block
pub to-frame : {fs gs : List Frame} {n : ℕ} {g : Frame} → AllFill fs gs → Target gs n g → (f : Frame) × Target fs n f × (branch_kinds f ≡ branch_kinds g)
to-frame none t = elim t [ ]
to-frame (each {f = f} w ws) innermost = (f, innermost, ap branch_kinds (sym w.whole))
to-frame (each w ws) (outer t) = let x = to-frame ws t in (x.0, outer x.1, x.2)

pub to-stack : {fs gs : List Frame} {n : ℕ} {f : Frame} → AllFill fs gs → Target fs n f → (g : Frame) × Target gs n g × (branch_kinds g ≡ branch_kinds f)
to-stack none t = elim t [ ]
to-stack (each {g = g} w ws) innermost = (g, innermost, ap branch_kinds w.whole)
to-stack (each w ws) (outer t) = let x = to-stack ws t in (x.0, outer x.1, x.2)

pub after-br : {f g : Frame} (u : List Kind) → Fills f g → Fills (deadened f) (holding g u)
after-br u w =
    record {
      under = u;
      whole = ap₂ (λ (x : Frame) (ks : List Kind). holding x ks) w.whole (sym (append-nil u));
      none_live = λ l. absurd (let z : ◌≡◌ {A = ℕ} 0 1 = cc (l) in omega arith);
    }

-- a block that begins is filled by itself
pub fresh : {b : Bool} {ks : List Kind} {g : Frame} → Fills (opened b ks) g → g ≡ opened b ks
fresh {b} {ks} w = w.whole ∙ ap (λ (u : List Kind). over u (opened b ks)) (w.none_live refl)

-- ---- 14 counts the values known (02, C-13): those that stand on every stack that the frames stand for, and on some no more

pub known-least : {fs gs : List Frame} → AllFill fs gs → length (all_values fs) ≤ length (all_values gs)
known-least none = omega arith
known-least (each {f = f} {g} {fs} {gs} w ws) =
    omega (
      arith,
      known-least ws,
      length-append (all_values fs) f.values,
      length-append (all_values gs) g.values,
      ap (λ (x : Frame). length x.values) w.whole,
      length-append w.under f.values,
    )

pub known_some : (fs : List Frame) → (gs : List Frame) × AllFill fs gs × (all_values gs ≡ all_values fs)
known_some [] = ([], none, refl)
known_some (f ∷ fs) = let it = known_some fs in (over [] f ∷ it.0, each (filled [] (λ l. refl)) it.1, ap (λ (ks : List Kind). ks ++ f.values) it.2)
