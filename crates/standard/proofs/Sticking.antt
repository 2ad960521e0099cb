-- Not typed by the rules, stuck in the standard's machine: blocks and branches.
use Prim.Native.Nat.{ℕ, zero, suc, ◌+◌}
use mathlib.Core.Path.{◌≡◌, refl, ap, ap₂, sym, ◌∙◌}
use mathlib.Core.Bool.{Bool, true, false, cond}
use mathlib.Core.List.{List, [], ◌∷◌, ◌++◌, map, reverse, append-nil, reverse-reverse, reverse-append}
use lib.Dec.{eqb}
use lib.ListN.{length, take, drop}
use borrow.Author.Tests.{eqb-true}
use Rattle.opcode.specs.Kind.{Kind}
use Rattle.machine.specs.Value.{Value, I32, I64, V128, kind_of}
use Rattle.machine.specs.Exec.{State, of_kinds}
use Rattle.rules.specs.Header.{Header}
use Rattle.rules.specs.Typing.{Frame, branch_kinds, Target, innermost, outer}
use Rattle.standard.specs.Closing.{close}
use Rattle.standard.specs.Standard.{Label, Config, Stage, going, ended, halted, with_stack, along, beyond, jump, branch, branch_if}
use Rattle.standard.specs.Safety.{Nested, outermost, inside}
use Rattle.standard.proofs.ValueKinds.{fit-kinds}
use Rattle.standard.proofs.Nestings.{no_target}
use Rattle.standard.proofs.Tops.{top_back}

module _ (s : List ℕ) (h : Header) (σ : State) where
  -- ---- 18: no such block

  pub no-branch : {fs : List Frame} {ls : List Label} (n : ℕ) → Nested s h fs ls → ((g : Frame) → Target fs n g → ⊥) → branch s h σ n ls ≡ halted
  no-branch zero (outermost {f} a b) never = absurd (never f innermost)
  no-branch (suc n) (outermost a b) never = refl
  no-branch zero (inside {f = f} a b c d e w) never = absurd (never f innermost)
  no-branch (suc n) (inside a b c d e w) never = no-branch n w (λ g t. never g (outer t))

  -- ---- 13: the values that the branch takes are not on top

  module _ (values : List Kind) (stacked : map kind_of σ.stack ≡ reverse values) where
    stays : (ks : List Kind) (f : List Value → Stage) → ((below : List Kind) → values ≡ below ++ ks → ⊥) → along ks σ.stack f ≡ halted
    stays ks f never = by (of_kinds (take (length ks) σ.stack) (reverse ks)) refl
      where
        by : (t : Bool) → of_kinds (take (length ks) σ.stack) (reverse ks) ≡ t → cond t (f (take (length ks) σ.stack)) halted ≡ halted
        by true q = absurd (never (reverse (map kind_of (drop (length ks) σ.stack))) (top_back σ.stack values ks stacked (fit-kinds (take (length ks) σ.stack) (reverse ks) q)))
        by false q = refl

    abbrev Lacks : Frame → Type 0
    Lacks g = (below : List Kind) → values ≡ below ++ branch_kinds g → ⊥

    no_jump : (g : Frame) (l : Label) (ls : List Label) → l.loop ≡ g.loop → l.results ≡ g.results → Lacks g → jump s h σ l ls ≡ halted
    no_jump g l ls a b never = by l.loop refl
      where
        by : (t : Bool) → l.loop ≡ t
            → cond t (going (record { place = l.body; state = with_stack σ []; labels = l ∷ ls })) (along l.results σ.stack (λ vs. beyond σ l ls vs (close h.version s l.body))) ≡ halted
        by true q =
            let taken : branch_kinds g ≡ [] = ap (λ (t : Bool). cond t [] g.results) (sym a ∙ q) in
            absurd (never values (sym (append-nil values) ∙ ap (λ (ks : List Kind). values ++ ks) (sym taken)))
        by false q =
            let taken : branch_kinds g ≡ l.results = ap₂ (λ (t : Bool) (ks : List Kind). cond t [] ks) (sym a ∙ q) (sym b) in
            stays l.results (λ vs. beyond σ l ls vs (close h.version s l.body)) (λ below e. never below (e ∙ ap (λ (ks : List Kind). below ++ ks) (sym taken)))

    pub lacking-branch : {fs : List Frame} {ls : List Label} {n : ℕ} {g : Frame} → Nested s h fs ls → Target fs n g → Lacks g → branch s h σ n ls ≡ halted
    lacking-branch {g = g} (outermost a b) innermost never =
        let taken : branch_kinds g ≡ h.results = ap₂ (λ (t : Bool) (ks : List Kind). cond t [] ks) a b in
        stays h.results (λ vs. ended (reverse vs) σ.memory) (λ below e. never below (e ∙ ap (λ (ks : List Kind). below ++ ks) (sym taken)))
    lacking-branch (outermost a b) (outer t) never = absurd (no_target t refl)
    lacking-branch (inside {f = f} {l = l} {ls = ls} a b c d e w) innermost never = no_jump f l ls a b never
    lacking-branch (inside a b c d e w) (outer t) never = lacking-branch w t never

-- ---- br_if: the branch is stuck, or not taken

pub data IfStuck (s : List ℕ) (h : Header) (c : Config) (n x : ℕ) (vs : List Value) : Type 0 where
  if-halts : branch_if s h c n x vs ≡ halted → IfStuck s h c n x vs
  if-zero : (st : List Value) → vs ≡ I32 0 ∷ st → IfStuck s h c n x vs

module _ (s : List ℕ) (h : Header) (c : Config) (n x : ℕ) where
  -- where the branch would be stuck whatever is under the i32
  pub if-stuck : (vs : List Value) → ((a : ℕ) (st : List Value) → vs ≡ I32 a ∷ st → branch s h (with_stack c.state st) x c.labels ≡ halted) → IfStuck s h c n x vs
  if-stuck [] next = if-halts refl
  if-stuck (I32 a ∷ st) next = by (eqb a 0) refl
    where
      by : (t : Bool) → eqb a 0 ≡ t → IfStuck s h c n x (I32 a ∷ st)
      by true q = if-zero st (ap (λ (k : ℕ). I32 k ∷ st) (eqb-true a 0 q))
      by false q =
          if-halts
          (ap (λ (t : Bool). cond t (going (record { place = c.place + n; state = with_stack c.state st; labels = c.labels })) (branch s h (with_stack c.state st) x c.labels)) q
          ∙ next a st refl)
  if-stuck (I64 a ∷ st) next = if-halts refl
  if-stuck (V128 a ∷ st) next = if-halts refl

-- the kinds under the top one
pub under_top : (values : List Kind) (k : Kind) (ks : List Kind) → k ∷ ks ≡ reverse values → values ≡ reverse ks ++ k ∷ []
under_top values k ks e = sym (reverse-reverse values) ∙ ap reverse (sym e) ∙ reverse-append (k ∷ []) ks
