-- ALIGNED ACCESS EARNS NO DIFFERENT ANSWER, of whole strips: two that differ in alignment exponents at most make the standard's machine do the same
-- steps.
use Prim.Native.Nat.{ℕ, zero, suc, ◌+◌}
use mathlib.Core.Path.{◌≡◌, refl, ap, sym, ◌∙◌}
use mathlib.Core.Bool.{cond}
use mathlib.Core.List.{List, [], ◌∷◌}
use mathlib.Core.Option.{Option}
use lib.Dec.{eqb}
use Rattle.opcode.specs.Kind.{Kind}
use Rattle.opcode.specs.Table.{Block, Loop, Br, BrIf, Code, plain, control, vector}
use Rattle.instr.specs.declared.Instr.{Instr}
use Rattle.machine.specs.Value.{Value, I32, I64, V128}
use Rattle.machine.specs.Exec.{State, Outcome}
use Rattle.machine.specs.Accesses.{aligned}
use Rattle.machine.proofs.Aligned.{aligned-alike}
use Rattle.rules.specs.Header.{Header}
use Rattle.rules.specs.Typing.{Frame, Types, ordinary, branches, may_branch, opens_block, opens_loop, closes}
use Rattle.rules.specs.Strip.{Reads, Reaches, front, past, Valid}
use Rattle.standard.specs.Closing.{is_end, close}
use Rattle.standard.specs.Standard.{Label, Config, Stage, going, ended, trapped, halted, with_stack, after, leave, along, beyond, branch, branch_if, step_plain, step_code, step, onward, runs}
use Rattle.standard.specs.Safety.{Nested, outermost, inside, Sound, Safe, safe_going}
use Rattle.standard.specs.Exponents.{Realigned}
use Rattle.standard.proofs.Steps.{step-does}
use Rattle.standard.proofs.Unwinding.{Next, last, goes_on, what-next, same_end}
use Rattle.standard.proofs.Never.{never_stuck}

-- ---- the rules ask no exponent

types-alike : {ls : List Kind} {i : Instr} (e : ℕ) {c : Code} {fs fs' : List Frame} → Types ls i c fs fs' → Types ls (aligned e i) c fs fs'
types-alike e (ordinary t x) = ordinary t x
types-alike e (branches l x) = branches l x
types-alike e (may_branch l x) = may_branch l x
types-alike e opens_block = opens_block
types-alike e opens_loop = opens_loop
types-alike e (closes x) = closes x

module _ {s t : List ℕ} {h : Header} (r : Realigned s t h) where
  pub reaches-too : {p : ℕ} {fs : List Frame} → Reaches s h p fs → Reaches t h p fs
  reaches-too (front d) = front r.declares
  reaches-too (past reached q x w) = let there = r.reads reached q in past (reaches-too reached) there.1 (types-alike there.0 x) w

module _ {s t : List ℕ} (v : Valid s) (r : Realigned s t v.header) where
  abbrev h : Header
  h = v.header

  -- what keeps the rules keeps them
  abbrev pub valid-too : Valid t
  valid-too =
      let there = r.reads v.reached v.ends in
      record {
        header = h;
        place = v.place;
        strip = v.strip;
        final = aligned there.0 v.final;
        reached = reaches-too r v.reached;
        ends = there.1;
        whole = v.whole;
        last = v.last ∙ sym r.long;
      }

  -- ---- a branch leads to the same place

  ends-alike : {f g : Frame} {fs : List Frame} {p : ℕ} → Reaches s h p (f ∷ g ∷ fs) → close h.version t p ≡ close h.version s p
  ends-alike reached = same_end v reached (record { reads = λ {i = i} reached q. let there = r.reads reached q in (aligned there.0 i, there.1) })

  branch-alike : (σ : State) (n : ℕ) {fs : List Frame} {ls : List Label} → Nested s h fs ls → branch t h σ n ls ≡ branch s h σ n ls
  branch-alike σ zero (outermost a b) = refl
  branch-alike σ (suc n) (outermost a b) = refl
  branch-alike σ zero (inside {l = l} {ls} a b c d e w) =
      let again : Config = record { place = l.body; state = with_stack σ []; labels = l ∷ ls } in
      ap (λ (q : Option ℕ). cond l.loop (going again) (along l.results σ.stack (λ vs. beyond σ l ls vs q))) (ends-alike e)
  branch-alike σ (suc n) (inside a b c d e w) = branch-alike σ n w

  if-alike : (c : Config) (n x : ℕ) {fs : List Frame} → Nested s h fs c.labels → (vs : List Value) → branch_if t h c n x vs ≡ branch_if s h c n x vs
  if-alike c n x w [] = refl
  if-alike c n x w (I32 a ∷ st) =
      let next : Config = record { place = c.place + n; state = with_stack c.state st; labels = c.labels } in
      ap (cond (eqb a 0) (going next)) (branch-alike (with_stack c.state st) x w)
  if-alike c n x w (I64 a ∷ st) = refl
  if-alike c n x w (V128 a ∷ st) = refl

  -- ---- each instruction

  code_alike : (c : Config) (n e : ℕ) (i : Instr) {fs : List Frame} → Nested s h fs c.labels → (k : Code)
      → step_code t h c n (aligned e i) k ≡ step_code s h c n i k
  code_alike c n e i w (plain p) = by c.labels
    where
      by : (ls : List Label) → step_plain h c n (aligned e i) p ls ≡ step_plain h c n i p ls
      by [] = ap (after c n) (aligned-alike h.results i e c.state (plain p))
      by (l ∷ ls) = ap (λ (o : Outcome). cond (is_end p) (leave n c l ls) (after c n o)) (aligned-alike h.results i e c.state (plain p))
  code_alike c n e i w (control Block) = refl
  code_alike c n e i w (control Loop) = refl
  code_alike c n e i w (control Br) = branch-alike c.state i.index w
  code_alike c n e i w (control BrIf) = if-alike c n i.index w c.state.stack
  code_alike c n e i w (vector o) = ap (after c n) (aligned-alike h.results i e c.state (vector o))

  -- one step from a sound state
  pub realigned-step : (c : Config) → Sound s h c → step t h c ≡ step s h c
  realigned-step c sound = by sound.reached sound.fits.nested (what-next v sound.reached)
    where
      at : {n : ℕ} {i : Instr} {k : Code} {fs : List Frame} → Reaches s h c.place fs → Nested s h fs c.labels → Reads h.version s c.place i k n
          → step t h c ≡ step s h c
      at {n} {i} {k} reached w q =
          let there = r.reads reached q in
          step-does h c there.1 ∙ code_alike c n there.0 i w k ∙ sym (step-does h c q)

      by : {fs : List Frame} → Reaches s h c.place fs → Nested s h fs c.labels → Next s h c.place fs → step t h c ≡ step s h c
      by reached w (last q x) = at reached w q
      by reached w (goes_on q x y) = at reached w q

  -- and any number of them
  pub realigned-runs : (b : Config) → Sound s h b → (k : ℕ) → runs t h k b ≡ runs s h k b
  unfolding runs
  realigned-runs b sound zero = refl
  realigned-runs b sound (suc k) = ap (onward t h) (realigned-runs b sound k) ∙ by (runs s h k b) (never_stuck v b sound k)
    where
      by : (g : Stage) → Safe s h b g → onward t h g ≡ onward s h g
      by (going c) (safe_going there long) = realigned-step c there
      by (ended vs m) safe = refl
      by (trapped a n) safe = refl
      by halted safe = elim safe [ ]
