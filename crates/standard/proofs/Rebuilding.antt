-- A sound state is its place, its whole stack, its locals and its memory, and no more: the bytes before the place say which blocks are around it, and the
-- rules how many values stand under each. So an image need not hold labels (02, C-14), and a state is rebuilt from it in one way.
use Prim.Native.Nat.{ℕ, ◌^◌, ◌<◌}
use mathlib.Core.Path.{◌≡◌, refl, ap, ap₂, sym, ◌∙◌, subst}
use mathlib.Core.List.{List, [], ◌∷◌, ◌++◌, map, reverse, reverse-append, append-nil}
use native.Mathlib.Omega.{arith}
use lib.ListN.{length, get_or, length-map, length-reverse}
use Rattle.opcode.specs.Kind.{Kind}
use Rattle.machine.specs.Value.{Value, kind_of, AllInRange}
use Rattle.rules.specs.Header.{Header, locals}
use Rattle.rules.specs.Typing.{Frame, all_values, Live}
use Rattle.rules.specs.Strip.{Reaches}
use Rattle.rules.specs.Around.{Around}
use Rattle.rules.proofs.Lists.{parts-once}
use Rattle.rules.proofs.Onward.{reached-once}
use Rattle.rules.proofs.Arounds.{Begun, strip, block, around-once, around-reached}
use Rattle.standard.specs.Standard.{Label, Config, under_all, whole_stack}
use Rattle.standard.specs.Safety.{Nested, outermost, inside, Fits, Sound, bodies, Placed}
use Rattle.standard.proofs.Tops.{kinds-append, range-append}

-- ---- the whole stack

module _ {s : List ℕ} {h : Header} where
  under-kinds : {f : Frame} {fs : List Frame} {ls : List Label} → Nested s h (f ∷ fs) ls → map kind_of (under_all ls) ≡ reverse (all_values fs)
  under-kinds (outermost a b) = refl
  under-kinds (inside {g = g} {fs} {l} {ls} a b c d e n) =
      kinds-append l.under (under_all ls) ∙ ap₂ (λ (x y : List Kind). x ++ y) c (under-kinds n) ∙ sym (reverse-append (all_values fs) g.values)

  under-range : {fs : List Frame} {ls : List Label} → Nested s h fs ls → AllInRange (under_all ls)
  under-range (outermost a b) = tt
  under-range (inside {l = l} {ls} a b c d e n) = range-append l.under (under_all ls) d (under-range n)

  module _ {f : Frame} {fs : List Frame} {c : Config} (fits : Fits s h f fs c) where
    pub fits-kinds : map kind_of (whole_stack c) ≡ reverse (all_values (f ∷ fs))
    fits-kinds =
        kinds-append c.state.stack (under_all c.labels) ∙ ap₂ (λ (x y : List Kind). x ++ y) fits.stacked (under-kinds fits.nested)
        ∙ sym (reverse-append (all_values fs) f.values)

    pub fits-range : AllInRange (whole_stack c)
    fits-range = range-append c.state.stack (under_all c.labels) fits.stack_range (under-range fits.nested)

    -- as many as the rules know
    pub fits-many : length (whole_stack c) ≡ length (all_values (f ∷ fs))
    fits-many = sym (length-map (whole_stack c) kind_of) ∙ ap length fits-kinds ∙ length-reverse (all_values (f ∷ fs))

  module _ {c : Config} (sound : Sound s h c) where
    pub whole_kinds : map kind_of (whole_stack c) ≡ reverse (all_values (sound.frame ∷ sound.outer))
    whole_kinds = fits-kinds sound.fits

    pub whole-range : AllInRange (whole_stack c)
    whole-range = fits-range sound.fits

    pub whole-many : length (whole_stack c) ≡ length (all_values (sound.frame ∷ sound.outer))
    whole-many = fits-many sound.fits

-- ---- one at least

-- values of these kinds over values of those
record Cut (xs ys : List Kind) (vs : List Value) : Type 0 where
  top : List Value
  rest : List Value
  whole : top ++ rest ≡ vs
  top-kinds : map kind_of top ≡ xs
  rest-kinds : map kind_of rest ≡ ys
  top-range : AllInRange top
  rest-range : AllInRange rest

cut : (xs ys : List Kind) (vs : List Value) → map kind_of vs ≡ xs ++ ys → AllInRange vs → Cut xs ys vs
cut [] ys vs e r = record { top = []; rest = vs; whole = refl; top-kinds = refl; rest-kinds = e; top-range = tt; rest-range = r }
cut (x ∷ xs) ys [] e r = absurd (let z : ◌≡◌ {A = ℕ} 0 1 = cc in omega arith)
cut (x ∷ xs) ys (v ∷ vs) e r =
    let same : kind_of v ≡ x = cc in
    let c = cut xs ys vs (cc) r.1 in
    record {
      top = v ∷ c.top;
      rest = c.rest;
      whole = ap (λ (l : List Value). v ∷ l) c.whole;
      top-kinds = ap₂ ◌∷◌ same c.top-kinds;
      rest-kinds = c.rest-kinds;
      top-range = (r.0, c.top-range);
      rest-range = c.rest-range;
    }

-- what stands above the innermost label, and the labels, by the frames and by where the blocks began
record Parts (s : List ℕ) (h : Header) (f : Frame) (fs : List Frame) (bs : List ℕ) (vs : List Value) : Type 0 where
  top : List Value
  labels : List Label
  stacked : map kind_of top ≡ reverse f.values
  range : AllInRange top
  nested : Nested s h (f ∷ fs) labels
  whole : top ++ under_all labels ≡ vs
  bodies-are : bodies labels ≡ bs

parts : {s : List ℕ} {h : Header} {f : Frame} {fs : List Frame} {bs : List ℕ} → Begun s h (f ∷ fs) bs → (vs : List Value)
    → map kind_of vs ≡ reverse (all_values (f ∷ fs)) → AllInRange vs → Parts s h f fs bs vs
parts (strip a b) vs e r =
    record { top = vs; labels = []; stacked = e; range = r; nested = outermost a b; whole = append-nil vs; bodies-are = refl }
parts (block {f = f} {g} {fs} {b} {bs} reached n) vs e r =
    let c = cut (reverse f.values) (reverse (all_values (g ∷ fs))) vs (e ∙ reverse-append (all_values (g ∷ fs)) f.values) r in
    let d = parts n c.rest c.rest-kinds c.rest-range in
    let l : Label = record { loop = f.loop; results = f.results; under = d.top; body = b } in
    record {
      top = c.top;
      labels = l ∷ d.labels;
      stacked = c.top-kinds;
      range = c.top-range;
      nested = inside refl refl d.stacked d.range reached d.nested;
      whole = ap (λ (x : List Value). c.top ++ x) d.whole ∙ c.whole;
      bodies-are = ap (λ (x : List ℕ). b ∷ x) d.bodies-are;
    }

-- a sound state of this place, these blocks, this whole stack, these locals and this memory
pub record Rebuilt (s : List ℕ) (h : Header) (p : ℕ) (bs : List ℕ) (vs ls : List Value) (m : List ℕ) : Type 0 where
  pub config : Config
  pub place_is : config.place ≡ p
  pub bodies-are : bodies config.labels ≡ bs
  pub stack_is : whole_stack config ≡ vs
  pub locals_are : config.state.locals ≡ ls
  pub memory-is : config.state.memory ≡ m
  pub sound : Sound s h config
  pub placed : Placed s h config

module _ {s : List ℕ} {h : Header} {p : ℕ} (vs ls : List Value) (m : List ℕ) (range : AllInRange vs) (held : map kind_of ls ≡ locals h)
    (local_range : AllInRange ls) (memory_range : (k : ℕ) → get_or m k 0 < 2 ^ 8) where
  of_parts : {f : Frame} {fs : List Frame} {bs : List ℕ} → Reaches s h p (f ∷ fs) → Live (f ∷ fs) → Around s h p bs → Parts s h f fs bs vs
      → Rebuilt s h p bs vs ls m
  of_parts {f} {fs} reached live around w =
      record {
        config = record { place = p; state = record { stack = w.top; locals = ls; memory = m }; labels = w.labels };
        place_is = refl;
        bodies-are = w.bodies-are;
        stack_is = w.whole;
        locals_are = refl;
        memory-is = refl;
        sound = record {
          frame = f;
          outer = fs;
          reached = reached;
          live = live;
          fits = record { stacked = w.stacked; nested = w.nested; held = held; stack_range = w.range; local_range = local_range; memory_range = memory_range };
        };
        placed = subst (Around s h p) (sym w.bodies-are) around;
      }

  of-begun : {fs : List Frame} {bs : List ℕ} → Reaches s h p fs → Live fs → Around s h p bs → map kind_of vs ≡ reverse (all_values fs) → Begun s h fs bs
      → Rebuilt s h p bs vs ls m
  of-begun reached live around e (strip a b) = of_parts reached live around (parts (strip a b) vs e range)
  of-begun reached live around e (block q n) = of_parts reached live around (parts (block q n) vs e range)

pub sound-some : {s : List ℕ} {h : Header} {p : ℕ} {fs : List Frame} {bs : List ℕ} → Reaches s h p fs → Live fs → Around s h p bs
    → (vs ls : List Value) (m : List ℕ) → map kind_of vs ≡ reverse (all_values fs) → AllInRange vs → map kind_of ls ≡ locals h → AllInRange ls
    → ((k : ℕ) → get_or m k 0 < 2 ^ 8) → Rebuilt s h p bs vs ls m
sound-some {s} {h} {fs = fs} reached live around vs ls m e range held local_range memory_range =
    let known = around-reached reached in
    of-begun vs ls m range held local_range memory_range reached live around e (subst (Begun s h fs) (around-once known.1 around) known.2)

-- ---- and one only

same-many : (vs ws : List Value) {ks : List Kind} → map kind_of vs ≡ ks → map kind_of ws ≡ ks → length vs ≡ length ws
same-many vs ws e f = sym (length-map vs kind_of) ∙ ap length (e ∙ sym f) ∙ length-map ws kind_of

same-label : (l m : Label) → l.loop ≡ m.loop → l.results ≡ m.results → l.under ≡ m.under → l.body ≡ m.body → l ≡ m
same-label l m a b c d = λ i. record { loop = a i; results = b i; under = c i; body = d i }

module _ {s : List ℕ} {h : Header} where
  nested-once : {fs : List Frame} {ls ms : List Label} → Nested s h fs ls → Nested s h fs ms → bodies ls ≡ bodies ms → under_all ls ≡ under_all ms → ls ≡ ms
  nested-once (outermost a b) (outermost c d) e u = refl
  nested-once (inside {l = l} {ls} a b c d e n) (inside {l = m} {ls = ms} a' b' c' d' e' n') q u =
      let apart = parts-once l.under m.under (under_all ls) (under_all ms) (same-many l.under m.under c c') u in
      ap₂ ◌∷◌ (same-label l m (a ∙ sym a') (b ∙ sym b') apart.0 (cc (q))) (nested-once n n' (cc (q)) apart.1)

  pub sound-once : (c d : Config) → Sound s h c → Placed s h c → Sound s h d → Placed s h d → c.place ≡ d.place → whole_stack c ≡ whole_stack d
      → c.state.locals ≡ d.state.locals → c.state.memory ≡ d.state.memory → c ≡ d
  sound-once c d a x b y place stack locals memory =
      let frames : a.frame ∷ a.outer ≡ b.frame ∷ b.outer =
      reached-once a.reached (subst (λ (p : ℕ). Reaches s h p (b.frame ∷ b.outer)) (sym place) b.reached) in
      let inner : a.frame ≡ b.frame = cc (frames) in
      let blocks : bodies c.labels ≡ bodies d.labels =
      around-once x (subst (λ (p : ℕ). Around s h p (bodies d.labels)) (sym place) y) in
      let apart = parts-once c.state.stack d.state.stack (under_all c.labels) (under_all d.labels)
      (same-many c.state.stack d.state.stack a.fits.stacked (b.fits.stacked ∙ ap (λ (f : Frame). reverse f.values) (sym inner))) stack in
      let labels : c.labels ≡ d.labels =
      nested-once a.fits.nested (subst (λ (fs : List Frame). Nested s h fs d.labels) (sym frames) b.fits.nested) blocks apart.1 in
      λ i. record { place = place i; state = record { stack = apart.0 i; locals = locals i; memory = memory i }; labels = labels i }
