-- The labels of a sound state are those of the blocks around its place, as a run begins and after every step: so an image need not hold them (02, C-14).
use Prim.Native.Nat.{ℕ, zero, suc, ◌+◌}
use mathlib.Core.Path.{◌≡◌, refl, ap, sym, subst}
use mathlib.Core.Bool.{Bool, true, false, cond}
use mathlib.Core.List.{List, [], ◌∷◌, reverse}
use lib.Dec.{eqb, ltb}
use lib.ListN.{length, take}
use Rattle.limits.specs.Limits.{stack_limit, nest_limit}
use Rattle.opcode.specs.Kind.{Kind}
use Rattle.opcode.specs.Table.{End, Code, plain}
use Rattle.instr.specs.declared.Instr.{Instr}
use Rattle.machine.specs.Value.{Value, I32, I64, V128}
use Rattle.machine.specs.Exec.{State, Outcome, goes, done, trap, stuck, of_kinds, exec}
use Rattle.rules.specs.Header.{Header, Declares, locals}
use Rattle.rules.specs.Typing.{Frame, Types, ordinary, branches, may_branch, opens_block, opens_loop, closes, Opens, block_opens, loop_opens, if_branches}
use Rattle.rules.specs.Strip.{Reads, Valid}
use Rattle.rules.specs.Around.{Around, around_none, begun, ended as left, same}
use Rattle.rules.proofs.Typings.{end-untyped, control-untyped}
use Rattle.rules.proofs.Sorts.{opens-control, branches-plain, opens-branches}
use Rattle.rules.proofs.Arounds.{Bodies, around-bodies}
use Rattle.standard.specs.Closing.{Closes, closed, goes_on as on-with, over_block, close}
use Rattle.standard.specs.Standard.{Label, Config, Stage, going, ended, trapped, halted, with_stack, count_under, after, enter, along, beyond}
use Rattle.standard.specs.Standard.{branch, branch_if, step_plain, step_code, step, onward, runs, begin}
use Rattle.standard.specs.Safety.{Nested, outermost, inside, Sound, Safe, safe_going, bodies, Placed}
use Rattle.standard.proofs.Steps.{step-does, does-ordinary}
use Rattle.standard.proofs.Roles.{closer-ends, opener-opens, neither-opens, neither-ends}
use Rattle.standard.proofs.Unwinding.{Next, last, goes_on, what-next, finds-end}
use Rattle.standard.proofs.Never.{never_stuck}

-- past the `end` of the innermost block the others are around
pub closes-around : {s : List ℕ} {h : Header} {p q b : ℕ} {bs : List ℕ} → Around s h p (b ∷ bs) → Closes h.version s p q → Around s h q bs
closes-around {s} {h} {p} a (closed {n = n} {i} {c} r e) = left a (subst (λ (x : Code). Reads h.version s p i x n) (closer-ends c e) r)
closes-around a (on-with r e c) = closes-around (same a r (neither-opens e) (neither-ends e)) c
closes-around a (over_block {c = k} r e c c') = closes-around (closes-around (begun a r (opener-opens k e)) c) c'

pub begin-placed : {s : List ℕ} {h : Header} → Declares s h → (vs : List Value) (m : List ℕ) → Placed s h (begin h vs m)
begin-placed d vs m = around_none d

-- where it goes on, the labels are those of the blocks around its place
abbrev pub PlacedStage : List ℕ → Header → Stage → Type 0
PlacedStage s h (going c) = Placed s h c
PlacedStage s h (ended vs m) = Unit {0}
PlacedStage s h (trapped a n) = Unit {0}
PlacedStage s h halted = Unit {0}

module _ {s : List ℕ} (v : Valid s) where
  abbrev h : Header
  h = v.header

  abbrev Good : Stage → Type 0
  Good g = PlacedStage s h g

  either : (t : Bool) (g g' : Stage) → Good g → Good g' → Good (cond t g g')
  either true g g' x y = x
  either false g g' x y = y

  -- ---- branches

  along-placed : (ks : List Kind) (vs : List Value) (f : List Value → Stage) → ((ws : List Value) → Good (f ws)) → Good (along ks vs f)
  along-placed ks vs f next = either (of_kinds (take (length ks) vs) (reverse ks)) (f (take (length ks) vs)) halted (next (take (length ks) vs)) tt

  -- to a loop, whose body begins inside it; or past the `end` of a block
  branch-placed : (σ : State) (n : ℕ) {fs : List Frame} {ls : List Label} → Nested s h fs ls → Bodies s h (bodies ls) → Good (branch s h σ n ls)
  branch-placed σ zero (outermost a b) at = along-placed h.results σ.stack (λ vs. ended (reverse vs) σ.memory) (λ vs. tt)
  branch-placed σ (suc n) (outermost a b) at = tt
  branch-placed σ zero (inside {l = l} {ls = ls} a b c d e w) at =
      let to = finds-end v e in
      either l.loop _ _ at.0
      (along-placed l.results σ.stack (λ vs. beyond σ l ls vs (close h.version s l.body))
      (λ vs. subst Good (ap (beyond σ l ls vs) (sym to.found)) (closes-around at.0 to.closes-there)))
  branch-placed σ (suc n) (inside a b c d e w) at = branch-placed σ n w at.1

  -- ---- one instruction

  module _ (c : Config) (placed : Placed s h c) where
    -- it opens no block and closes none
    goes-past : {n : ℕ} {i : Instr} {k : Code} → Reads h.version s c.place i k n → (Opens k → ⊥) → (k ≡ plain End → ⊥) → (σ : State)
        → Good (going (record { place = c.place + n; state = σ; labels = c.labels }))
    goes-past r f g σ = same placed r f g

    after-placed : {n : ℕ} {i : Instr} {k : Code} → Reads h.version s c.place i k n → (Opens k → ⊥) → (k ≡ plain End → ⊥) → (o : Outcome)
        → Good (after c n o)
    after-placed r f g (goes σ) = either (ltb stack_limit (length σ.stack + count_under c.labels)) halted _ tt (goes-past r f g σ)
    after-placed r f g (done vs) = tt
    after-placed r f g (trap a k) = tt
    after-placed r f g stuck = tt

    if-placed : {n : ℕ} {i : Instr} {k : Code} → Reads h.version s c.place i k n → (Opens k → ⊥) → (k ≡ plain End → ⊥) → (x : ℕ) {fs : List Frame}
        → Nested s h fs c.labels → (vs : List Value) → Good (branch_if s h c n x vs)
    if-placed r f g x w [] = tt
    if-placed r f g x w (I32 a ∷ st) =
        either (eqb a 0) _ _ (goes-past r f g (with_stack c.state st)) (branch-placed (with_stack c.state st) x w (around-bodies placed))
    if-placed r f g x w (I64 a ∷ st) = tt
    if-placed r f g x w (V128 a ∷ st) = tt

    enter-placed : (b : Bool) {n : ℕ} {i : Instr} {k : Code} → Reads h.version s c.place i k n → Opens k → Good (enter b i n c)
    enter-placed b r o = either (ltb (length c.labels) nest_limit) _ halted (begun placed r o) tt

    -- `end` closes the innermost block, or ends the strip
    end-placed : {n : ℕ} {i : Instr} → Reads h.version s c.place i (plain End) n → (ls : List Label) → Around s h c.place (bodies ls)
        → Good (step_plain h c n i End ls)
    end-placed {n} r [] a = out (of_kinds c.state.stack (reverse h.results))
      where
        out : (t : Bool) → Good (after c n (cond t (done (reverse c.state.stack)) stuck))
        out true = tt
        out false = tt
    end-placed r (l ∷ ls) a = either (of_kinds c.state.stack (reverse l.results)) _ halted (left a r) tt

    code-placed : {n : ℕ} {i : Instr} {k : Code} {fs fs' : List Frame} → Reads h.version s c.place i k n → Types (locals h) i k fs fs'
        → Nested s h fs c.labels → Good (step_code s h c n i k)
    code-placed {n} {i} {k} r (ordinary t x) w =
        subst Good (sym (does-ordinary s h c n i k (end-untyped t) (λ y. control-untyped t)))
        (after-placed r (λ o. control-untyped t (opens-control o).1) (end-untyped t) (exec h.results k i c.state))
    code-placed {i = i} r (branches l x) w = branch-placed c.state i.index w (around-bodies placed)
    code-placed {i = i} r (may_branch l x) w =
        if-placed r (λ o. opens-branches o if_branches refl) (branches-plain if_branches) i.index w c.state.stack
    code-placed r opens_block w = enter-placed false r block_opens
    code-placed r opens_loop w = enter-placed true r loop_opens
    code-placed r (closes x) w = end-placed r c.labels placed

    next-placed : {fs : List Frame} → Next s h c.place fs → Nested s h fs c.labels → Good (step s h c)
    next-placed (last r e) w = subst Good (sym (step-does h c r)) (end-placed r c.labels placed)
    next-placed (goes_on r t x) w = subst Good (sym (step-does h c r)) (code-placed r t w)

  -- AFTER EVERY STEP
  pub placed-step : (c : Config) → Sound s h c → Placed s h c → PlacedStage s h (step s h c)
  placed-step c sound placed = next-placed c placed (what-next v sound.reached) sound.fits.nested

  pub placed-runs : (c : Config) → Sound s h c → Placed s h c → (k : ℕ) → PlacedStage s h (runs s h k c)
  unfolding runs
  placed-runs c sound placed zero = placed
  placed-runs c sound placed (suc k) = by (runs s h k c) (never_stuck v c sound k) (placed-runs c sound placed k)
    where
      by : (g : Stage) → Safe s h c g → Good g → Good (onward s h g)
      by (going d) (safe_going there long) x = placed-step d there x
      by (ended vs m) safe x = tt
      by (trapped a n) safe x = tt
      by halted safe x = elim safe [ ]

  pub step-placed : (c d : Config) → Sound s h c → Placed s h c → step s h c ≡ going d → Placed s h d
  step-placed c d sound placed e = subst Good e (placed-step c sound placed)

  pub runs-placed : (c d : Config) → Sound s h c → Placed s h c → (k : ℕ) → runs s h k c ≡ going d → Placed s h d
  runs-placed c d sound placed k e = subst Good e (placed-runs c sound placed k)
