-- A branch in a strip that keeps the rules, with the values that it takes on top, leads to a sound state or ends the strip with its results.
use Prim.Native.Nat.{ℕ, ◌^◌, ◌<◌}
use mathlib.Core.Path.{◌≡◌, refl, ap, ap₂, sym, ◌∙◌, subst}
use mathlib.Core.Bool.{Bool, true, false, cond}
use mathlib.Core.List.{List, [], ◌∷◌, ◌++◌, map, reverse, reverse-append, reverse-reverse}
use lib.ListN.{length, get_or, take}
use Rattle.opcode.specs.Kind.{Kind}
use Rattle.machine.specs.Value.{Value, kind_of, AllInRange}
use Rattle.machine.specs.Exec.{State}
use Rattle.rules.specs.Header.{Header, locals}
use Rattle.rules.specs.Typing.{Frame, opened, holding, branch_kinds, Target, innermost, outer, Live}
use Rattle.rules.specs.Strip.{Reaches, Valid}
use Rattle.standard.specs.Closing.{close}
use Rattle.standard.specs.Standard.{Label, Config, Stage, going, ended, halted, with_stack, along, beyond, jump, branch}
use Rattle.standard.specs.Safety.{Nested, outermost, inside, Fits, Sound, Finishes, Safe, safe_going, safe_ended}
use Rattle.standard.proofs.ValueKinds.{reverse-kinds, reverse-range, kinds-fit}
use Rattle.standard.proofs.Along.{no_steps}
use Rattle.standard.proofs.Nestings.{nested_same, no_target}
use Rattle.standard.proofs.Unwinding.{finds-end}
use Rattle.standard.proofs.Tops.{kinds-append, range-take, range-append, top-kinds}

-- what a state has beside its stack
pub record Rest (h : Header) (σ : State) : Type 0 where
  pub held : map kind_of σ.locals ≡ locals h
  pub local_range : AllInRange σ.locals
  pub memory_range : (k : ℕ) → get_or σ.memory k 0 < 2 ^ 8

pub rest_of : {s : List ℕ} {h : Header} {f : Frame} {fs : List Frame} {c : Config} → Fits s h f fs c → Rest h c.state
rest_of t = record { held = t.held; local_range = t.local_range; memory_range = t.memory_range }

-- a state of these values
pub fits-with : {s : List ℕ} {h : Header} {f : Frame} {fs : List Frame} {σ : State} (p : ℕ) (vs : List Value) (ls : List Label) → Rest h σ
    → map kind_of vs ≡ reverse f.values → AllInRange vs → Nested s h (f ∷ fs) ls → Fits s h f fs (record { place = p; state = with_stack σ vs; labels = ls })
fits-with p vs ls rest e r n =
    record { stacked = e; nested = n; held = rest.held; stack_range = r; local_range = rest.local_range; memory_range = rest.memory_range }

-- these kinds are on top and go along
pub goes-along : (ks : List Kind) (vs : List Value) (f : List Value → Stage) → map kind_of (take (length ks) vs) ≡ reverse ks
    → along ks vs f ≡ f (take (length ks) vs)
goes-along ks vs f e = ap (λ (t : Bool). cond t (f (take (length ks) vs)) halted) (kinds-fit (take (length ks) vs) (reverse ks) e)

-- where this is an end, the strip is left at c
abbrev pub Finishing : List ℕ → Header → Config → Stage → Type 0
Finishing s h c g = (vs : List Value) (m : List ℕ) → g ≡ ended vs m → Finishes s h c vs m

-- from b on, where the state is σ
module _ {s : List ℕ} (v : Valid s) (b : Config) (sound : Sound s v.header b) (σ : State) (long : length σ.memory ≡ length b.state.memory)
    (rest : Rest v.header σ) (range : AllInRange σ.stack) where
  abbrev h : Header
  h = v.header

  abbrev Good : Stage → Type 0
  Good g = Safe s h b g

  -- the strip is left
  out : map kind_of (take (length h.results) σ.stack) ≡ reverse h.results
      → Finishing s h b (along h.results σ.stack (λ vs. ended (reverse vs) σ.memory))
      → Good (along h.results σ.stack (λ vs. ended (reverse vs) σ.memory))
  out top finishes =
      let vs = take (length h.results) σ.stack in
      let all = goes-along h.results σ.stack (λ vs. ended (reverse vs) σ.memory) top in
      subst Good (sym all)
      (safe_ended 0 (no_steps s h b) sound (finishes (reverse vs) σ.memory all) (reverse-kinds vs ∙ ap reverse top ∙ reverse-reverse h.results)
      (reverse-range vs (range-take (length h.results) σ.stack range)) long)

  module _ (f g : Frame) (fs : List Frame) (l : Label) (ls : List Label) (live : Live (g ∷ fs)) (a : l.loop ≡ f.loop) (r : l.results ≡ f.results)
      (c : map kind_of l.under ≡ reverse g.values) (d : AllInRange l.under) (e : Reaches s h l.body (opened f.loop f.results ∷ g ∷ fs)) (n : Nested s h (g ∷ fs) ls) where
    -- a loop begins again
    again : Good (going (record { place = l.body; state = with_stack σ []; labels = l ∷ ls }))
    again =
        safe_going (record {
          frame = opened f.loop f.results;
          outer = g ∷ fs;
          reached = e;
          live = (refl, live);
          fits = fits-with l.body [] (l ∷ ls) rest refl tt (inside a r c d e n);
        }) long

    -- a block is left
    leaves : map kind_of (take (length l.results) σ.stack) ≡ reverse l.results
        → Good (along l.results σ.stack (λ vs. beyond σ l ls vs (close h.version s l.body)))
    leaves top =
        let vs = take (length l.results) σ.stack in
        let to = finds-end v e in
        subst Good (sym (goes-along l.results σ.stack (λ vs. beyond σ l ls vs (close h.version s l.body)) top ∙ ap (beyond σ l ls vs) to.found))
        (safe_going (record {
          frame = holding g (g.values ++ f.results);
          outer = fs;
          reached = to.reached;
          live = live;
          fits =
              fits-with to.place (vs ++ l.under) ls rest
              (kinds-append vs l.under ∙ ap₂ (λ (x y : List Kind). x ++ y) (top ∙ ap reverse r) c ∙ sym (reverse-append g.values f.results))
              (range-append vs l.under (range-take (length l.results) σ.stack range) d) (nested_same (g.values ++ f.results) n);
        }) long)

    jumps : (below : List Kind) → map kind_of σ.stack ≡ reverse (below ++ branch_kinds f) → Good (jump s h σ l ls)
    jumps below top = by l.loop refl
      where
        by : (t : Bool) → l.loop ≡ t
            → Good (cond t (going (record { place = l.body; state = with_stack σ []; labels = l ∷ ls })) (along l.results σ.stack (λ vs. beyond σ l ls vs (close h.version s l.body))))
        by true q = again
        by false q =
            let taken : branch_kinds f ≡ l.results = ap₂ (λ (t : Bool) (ks : List Kind). cond t [] ks) (sym a ∙ q) (sym r) in
            leaves (top-kinds σ.stack below l.results (top ∙ ap (λ (ks : List Kind). reverse (below ++ ks)) taken))

  pub branch-safe : {n : ℕ} {g : Frame} {fs : List Frame} {ls : List Label} (below : List Kind) → Target fs n g → Nested s h fs ls → Live fs
      → map kind_of σ.stack ≡ reverse (below ++ branch_kinds g) → Finishing s h b (branch s h σ n ls) → Good (branch s h σ n ls)
  branch-safe {g = g} below innermost (outermost a b) live top finishes =
      let taken : branch_kinds g ≡ h.results = ap₂ (λ (t : Bool) (ks : List Kind). cond t [] ks) a b in
      out (top-kinds σ.stack below h.results (top ∙ ap (λ (ks : List Kind). reverse (below ++ ks)) taken)) finishes
  branch-safe below innermost (inside {f = f} {g = g} {fs = fs} {l = l} {ls = ls} a b c d e n) live top finishes =
      jumps f g fs l ls live.1 a b c d e n below top
  branch-safe below (outer t) (outermost a b) live top finishes = absurd (no_target t refl)
  branch-safe below (outer t) (inside a b c d e n) live top finishes = branch-safe below t n live.1 top finishes
