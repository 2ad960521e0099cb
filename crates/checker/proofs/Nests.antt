-- The open blocks.
use Prim.Native.Nat.{ℕ, zero, suc, ◌-◌, ◌≤◌, ◌<◌}
use mathlib.Core.Path.{◌≡◌, refl, sym, ap, subst, ◌∙◌}
use mathlib.Core.Bool.{Bool, true, false, cond}
use mathlib.Core.List.{List, [], ◌∷◌}
use native.Mathlib.Omega.{arith}
use lib.ListN.{length, get_or, set}
use lib.Seq.{get_or-set_other}
use Rattle.limits.specs.Limits.{result_limit}
use Rattle.opcode.specs.Kind.{Kind}
use Rattle.opcode.specs.BlockType.{is_block_type, block_results}
use Rattle.rules.specs.Typing.{Frame, all_values, branch_kinds, Target, innermost, outer}
use Rattle.checker.specs.Inner.Stack.{Top}
use Rattle.checker.specs.Walk.{word, OpenBlocks, strip, block, Framed}
use Rattle.checker.specs.Inner.Blocks.{top_first, Labelled}
use Rattle.checker.proofs.Words.{type-few}

-- ---- what nested blocks say

-- the innermost
pub record Inner (floor : ℕ) (dead : Bool) (fs : List Frame) : Type 0 where
  pub top : Frame
  pub rest : List Frame
  pub frames : fs ≡ top ∷ rest
  pub floor_is : length (all_values rest) ≡ floor
  pub dead_is : top.dead ≡ dead

module _ {rs : List Kind} {blocks : List ℕ} where
  pub nested-many : {nest floor : ℕ} {dead : Bool} {fs : List Frame} → OpenBlocks rs blocks nest floor dead fs → length fs ≡ suc nest
  nested-many (strip l r) = refl
  nested-many (block y n e t r) = ap suc (nested-many n)

  pub nested-inner : {nest floor : ℕ} {dead : Bool} {fs : List Frame} → OpenBlocks rs blocks nest floor dead fs → Inner floor dead fs
  nested-inner (strip {f} l r) = record { top = f; rest = []; frames = refl; floor_is = refl; dead_is = refl }
  nested-inner (block y {f = f} {g} {fs} n e t r) = record { top = f; rest = g ∷ fs; frames = refl; floor_is = refl; dead_is = refl }

  pub nested-dead : {nest floor : ℕ} {dead : Bool} {f : Frame} {fs : List Frame} → OpenBlocks rs blocks nest floor dead (f ∷ fs) → f.dead ≡ dead
  nested-dead (strip l r) = refl
  nested-dead (block y n e t r) = refl

  -- with other values, or dead
  pub nested-as : {nest floor : ℕ} {dead : Bool} {f : Frame} {fs : List Frame} (f' : Frame) → f'.loop ≡ f.loop → f'.results ≡ f.results
      → OpenBlocks rs blocks nest floor dead (f ∷ fs) → OpenBlocks rs blocks nest floor f'.dead (f' ∷ fs)
  nested-as f' el er (strip l r) = strip (el ∙ l) (er ∙ r)
  nested-as {f = f} f' el er (block type {floor = floor} {dead} n e t r) =
      block type {f = f'} n (e ∙ ap (λ (x : Bool). word floor type x dead) (sym el)) t (er ∙ r)

  -- by its frames
  pub frames-case : (P : List Frame → Type 0) {nest floor : ℕ} {dead : Bool} {fs : List Frame} → OpenBlocks rs blocks nest floor dead fs → ((f : Frame) (rest : List Frame) → P (f ∷ rest)) → P fs
  frames-case P (strip {f} l r) k = k f []
  frames-case P (block y {f = f} {g} {fs} n e t r) k = k f (g ∷ fs)

  -- a word more changes none before it
  pub nested-keeps : {nest floor : ℕ} {dead : Bool} {fs : List Frame} (at w : ℕ) → nest ≤ at → OpenBlocks rs blocks nest floor dead fs → OpenBlocks rs (set blocks at w) nest floor dead fs
  nested-keeps at w l (strip e r) = strip e r
  nested-keeps at w l (block y {nest} n e t r) =
      block y (nested-keeps at w (omega arith) n) (get_or-set_other blocks at nest w 0 (λ z. omega (arith, z, l)) ∙ e) t r

-- ---- the innermost block and what is around it

pub record Closing (rs : List Kind) (blocks : List ℕ) (nest floor : ℕ) (dead : Bool) (fs : List Frame) : Type 0 where
  pub top : Frame
  pub next : Frame
  pub rest : List Frame
  pub frames : fs ≡ top ∷ next ∷ rest
  pub dead_is : top.dead ≡ dead
  pub floor_is : length (all_values (next ∷ rest)) ≡ floor
  pub outer-floor : ℕ
  pub outer-dead : Bool
  pub type : ℕ
  pub around : OpenBlocks rs blocks (nest - 1) outer-floor outer-dead (next ∷ rest)
  pub word-is : get_or blocks (nest - 1) 0 ≡ word outer-floor type top.loop outer-dead
  pub is-type : is_block_type type ≡ true
  pub results_are : top.results ≡ block_results type

pub closing : {rs : List Kind} {blocks : List ℕ} {nest floor : ℕ} {dead : Bool} {fs : List Frame} → OpenBlocks rs blocks nest floor dead fs → 0 < nest
    → Closing rs blocks nest floor dead fs
closing (strip l r) h = absurd (let z : ⊥ = omega arith in z)
closing {rs} {blocks} (block type {nest} {floor} {dead} {f} {g} {fs} n e t r) h =
    let less : nest ≡ suc nest - 1 = omega arith in
    record {
      top = f;
      next = g;
      rest = fs;
      frames = refl;
      dead_is = refl;
      floor_is = refl;
      outer-floor = floor;
      outer-dead = dead;
      type = type;
      around = subst (λ (k : ℕ). OpenBlocks rs blocks k floor dead (g ∷ fs)) less n;
      word-is = ap (λ (k : ℕ). get_or blocks k 0) (sym less) ∙ e;
      is-type = t;
      results_are = r;
    }

-- ---- the n-th block

-- what a word says of its block
pub record Worded (fs : List Frame) (n w : ℕ) : Type 0 where
  pub target : Frame
  pub label : Target fs n target
  pub floor : ℕ
  pub type : ℕ
  pub dead : Bool
  pub word-is : w ≡ word floor type target.loop dead
  pub is-type : is_block_type type ≡ true
  pub results_are : target.results ≡ block_results type

worded-outer : {f : Frame} {fs : List Frame} {n w w' : ℕ} → Worded fs n w → w' ≡ w → Worded (f ∷ fs) (suc n) w'
worded-outer d e =
    record {
      target = d.target;
      label = outer d.label;
      floor = d.floor;
      type = d.type;
      dead = d.dead;
      word-is = e ∙ d.word-is;
      is-type = d.is-type;
      results_are = d.results_are;
    }

module _ {rs : List Kind} {blocks : List ℕ} where
  pub label-strip : {nest floor : ℕ} {dead : Bool} {fs : List Frame} → OpenBlocks rs blocks nest floor dead fs → (takes : ℕ) → top_first rs ≡ takes → length rs ≤ result_limit → Labelled fs nest takes
  label-strip (strip {f} l r) takes e few =
      let same : branch_kinds f ≡ rs = ap (λ (b : Bool). cond b [] f.results) l ∙ r in
      record { target = f; label = innermost; takes_is = ap top_first same ∙ e; few = omega (arith, ap length same, few) }
  label-strip (block y n w t r) takes e few =
      let g = label-strip n takes e few in record { target = g.target; label = outer g.label; takes_is = g.takes_is; few = g.few }

  pub label-block : {nest floor : ℕ} {dead : Bool} {fs : List Frame} → OpenBlocks rs blocks nest floor dead fs → (n : ℕ) → n < nest
      → Worded fs n (get_or blocks (nest - n - 1) 0)
  label-block (strip l r) n h = absurd (let z : ⊥ = omega arith in z)
  label-block (block type {nest} {floor} {dead} {f} n w t r) zero h =
      record {
        target = f;
        label = innermost;
        floor = floor;
        type = type;
        dead = dead;
        word-is = ap (λ (x : ℕ). get_or blocks x 0) (let z : suc nest - 0 - 1 ≡ nest = omega arith in z) ∙ w;
        is-type = t;
        results_are = r;
      }
  label-block (block y {nest} n w t r) (suc k) h =
      worded-outer (label-block n k (omega arith))
      (ap (λ (x : ℕ). get_or blocks x 0) (let z : suc nest - suc k - 1 ≡ nest - k - 1 = omega arith in z))

  -- none beyond the strip
  pub no_such : {nest floor : ℕ} {dead : Bool} {fs : List Frame} → OpenBlocks rs blocks nest floor dead fs → (n : ℕ) → nest < n → (g : Frame) → Target fs n g → ⊥
  no_such n k l g label = beyond label (omega (arith, nested-many n))
    where
      beyond : {fs : List Frame} {k : ℕ} {g : Frame} → Target fs k g → length fs ≤ k → ⊥
      beyond innermost l = omega arith
      beyond (outer x) l = beyond x (omega arith)

pub at-strip : {fs : List Frame} {n nest takes : ℕ} → n ≡ nest → Labelled fs nest takes → Labelled fs n takes
at-strip {fs} {takes = takes} e l = subst (λ (x : ℕ). Labelled fs x takes) (sym e) l

-- a loop takes nothing, a block its results
pub takes_none : {fs : List Frame} {n w : ℕ} → (d : Worded fs n w) → d.target.loop ≡ true → Labelled fs n 0
takes_none d e =
    let same : branch_kinds d.target ≡ [] = ap (λ (b : Bool). cond b [] d.target.results) e in
    record { target = d.target; label = d.label; takes_is = ap top_first same; few = omega (arith, ap length same) }

pub takes-results : {fs : List Frame} {n w r : ℕ} → (d : Worded fs n w) → d.target.loop ≡ false → r ≡ top_first (block_results d.type) → Labelled fs n r
takes-results d e is =
    let same : branch_kinds d.target ≡ block_results d.type = ap (λ (b : Bool). cond b [] d.target.results) e ∙ d.results_are in
    record {
      target = d.target;
      label = d.label;
      takes_is = ap top_first same ∙ sym is;
      few = omega (arith, ap length same, type-few d.type d.is-type);
    }

-- ---- the innermost block's values on top of the others'

module _ {rs : List Kind} {kinds blocks : List ℕ} {depth nest floor : ℕ} {dead : Bool} where
  pub framed-top : {f : Frame} {fs : List Frame} → Framed rs kinds blocks depth nest floor dead (f ∷ fs) → Top kinds depth floor dead (all_values fs) f
  framed-top {f} {fs} w = by (nested-inner w.nested) refl
    where
      by : {gs : List Frame} → Inner floor dead gs → gs ≡ f ∷ fs → Top kinds depth floor dead (all_values fs) f
      by d e =
          let same : d.top ∷ d.rest ≡ f ∷ fs = sym d.frames ∙ e in
          let tops : d.top ≡ f = cc in
          let rests : d.rest ≡ fs = cc in
          record {
            holds = w.holds;
            floor_is = ap (λ (x : List Frame). length (all_values x)) (sym rests) ∙ d.floor_is;
            dead_is = ap (λ (x : Frame). x.dead) (sym tops) ∙ d.dead_is;
          }
