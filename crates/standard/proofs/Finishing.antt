-- WHO MAY END, of the standard's machine: in any state, of any strip, a step ends exactly where the instruction that stands there leaves the strip.
use Prim.Native.Nat.{ℕ, zero, suc, ◌+◌}
use mathlib.Core.Path.{◌≡◌, refl, ap, ap₂, sym, ◌∙◌, subst}
use mathlib.Core.Bool.{Bool, true, false, cond}
use mathlib.Core.List.{List, [], ◌∷◌, ◌++◌, map, reverse, reverse-reverse}
use mathlib.Core.Option.{Option, none, some}
use mathlib.Core.Logic.{◌↔◌}
use native.Mathlib.Omega.{arith}
use lib.Dec.{eqb, ltb}
use lib.Seq.{take_at}
use lib.ListN.{length, take, drop, length-map, length-reverse, take-append-drop}
use borrow.Author.Tests.{eqb-false, ne_eqb}
use Rattle.limits.specs.Limits.{stack_limit, nest_limit}
use Rattle.leb128.specs.Bytes.{bytes}
use Rattle.operation.specs.Op.{Op}
use Rattle.opcode.specs.Table.{Plain, End, Block, Loop, Br, BrIf, Code, plain, control, vector}
use Rattle.instr.specs.declared.Instr.{Instr}
use Rattle.machine.specs.Value.{Value, I32, I64, V128, kind_of}
use Rattle.machine.specs.Exec.{State, Outcome, goes, done, trap, stuck, of_kinds, exec}
use Rattle.machine.proofs.Outcomes.{done-ends}
use Rattle.rules.specs.Header.{Header}
use Rattle.rules.specs.Strip.{Reads}
use Rattle.standard.specs.Closing.{is_end, close}
use Rattle.standard.specs.Standard.{Label, Config, Stage, going, ended, trapped, halted, with_stack, count_under, after, leave, along, beyond, branch, branch_if, step_plain, step_code, step}
use Rattle.standard.specs.Safety.{Exits, by_end, by_br, by_br_if, Finishes}
use Rattle.standard.proofs.ValueKinds.{reverse-kinds, kinds-fit, fit-kinds}
use Rattle.standard.proofs.Steps.{step-does, of-step}
use Rattle.standard.proofs.Branching.{goes-along}

not-false : false ≡ true → ⊥
not-false e = let z : ◌≡◌ {A = ℕ} 0 1 = cc (e) in omega arith

plain-once : {p q : Plain} → plain p ≡ plain q → p ≡ q
plain-once e = cc (e)

-- past the last label
pub out_of : (s : List ℕ) (h : Header) (σ : State) (ls : List Label)
    → branch s h σ (length ls) ls ≡ along h.results σ.stack (λ vs. ended (reverse vs) σ.memory)
out_of s h σ [] = refl
out_of s h σ (l ∷ ls) = out_of s h σ ls

module _ (s : List ℕ) (h : Header) (ws : List Value) (m : List ℕ) where
  -- ---- what does not end

  abbrev Unended : Stage → Type 0
  Unended g = g ≡ ended ws m → ⊥

  on-going : (c : Config) → Unended (going c)
  on-going c e = let z : ◌≡◌ {A = ℕ} 0 1 = cc (e) in omega arith

  on-trapped : (a n : ℕ) → Unended (trapped a n)
  on-trapped a n e = let z : ◌≡◌ {A = ℕ} 0 1 = cc (e) in omega arith

  on-halted : Unended halted
  on-halted e = let z : ◌≡◌ {A = ℕ} 0 1 = cc (e) in omega arith

  either : (t : Bool) {g g' : Stage} → Unended g → Unended g' → Unended (cond t g g')
  either true x y = x
  either false x y = y

  on-beyond : (σ : State) (l : Label) (ls : List Label) (vs : List Value) (q : Option ℕ) → Unended (beyond σ l ls vs q)
  on-beyond σ l ls vs none = on-halted
  on-beyond σ l ls vs (some q) = on-going _

  -- ---- what ends

  -- the results are on top of these operands, and the memory is m
  record OnTop (st : List Value) (mem : List ℕ) : Type 0 where
    pub below : List Value
    pub stack : st ≡ reverse ws ++ below
    pub kinds : map kind_of ws ≡ h.results
    pub memory : m ≡ mem

  turned : (vs : List Value) → reverse vs ≡ ws → vs ≡ reverse ws
  turned vs e = sym (reverse-reverse vs) ∙ ap reverse e

  turned-kinds : (vs : List Value) → reverse vs ≡ ws → map kind_of vs ≡ reverse h.results → map kind_of ws ≡ h.results
  turned-kinds vs e k = ap (map kind_of) (sym e) ∙ reverse-kinds vs ∙ ap reverse k ∙ reverse-reverse h.results

  top-out : (σ : State) → along h.results σ.stack (λ vs. ended (reverse vs) σ.memory) ≡ ended ws m → OnTop σ.stack σ.memory
  top-out σ e = by (of_kinds up (reverse h.results)) refl e
    where
      up : List Value
      up = take (length h.results) σ.stack

      by : (t : Bool) → of_kinds up (reverse h.results) ≡ t → cond t (ended (reverse up) σ.memory) halted ≡ ended ws m → OnTop σ.stack σ.memory
      by true fit q =
          let same : reverse up ≡ ws = cc (q) in
          let mem : m ≡ σ.memory = cc (q) in
          let rest = drop (length h.results) σ.stack in
          record {
            below = rest;
            stack = sym (take-append-drop (length h.results) σ.stack) ∙ ap (λ (vs : List Value). vs ++ rest) (turned up same);
            kinds = turned-kinds up same (fit-kinds up (reverse h.results) fit);
            memory = mem;
          }
      by false fit q = absurd (on-halted q)

  branch-out : (σ : State) (n : ℕ) (ls : List Label) → branch s h σ n ls ≡ ended ws m → (n ≡ length ls) × OnTop σ.stack σ.memory
  branch-out σ zero [] e = (refl, top-out σ e)
  branch-out σ (suc n) [] e = absurd (on-halted e)
  branch-out σ zero (l ∷ ls) e =
      absurd (either l.loop (on-going _)
      (either (of_kinds (take (length l.results) σ.stack) (reverse l.results))
      (on-beyond σ l ls (take (length l.results) σ.stack) (close h.version s l.body)) on-halted) e)
  branch-out σ (suc n) (l ∷ ls) e = let deeper = branch-out σ n ls e in (ap suc deeper.0, deeper.1)

  -- an instruction of this code, over so many labels and this stack
  abbrev Out : Instr → Code → ℕ → List Value → List ℕ → Type 0
  Out i k n st mem = Exits i k n st ws × (map kind_of ws ≡ h.results) × (m ≡ mem)

  br-out : (i : Instr) (σ : State) (ls : List Label) → branch s h σ i.index ls ≡ ended ws m → Out i (control Br) (length ls) σ.stack σ.memory
  br-out i σ ls e =
      let out = branch-out σ i.index ls e in
      let top = out.1 in (
        subst (λ (n : ℕ). Exits i (control Br) n σ.stack ws) out.0
            (subst (λ (vs : List Value). Exits i (control Br) i.index vs ws) (sym top.stack) (by_br top.below)),
        top.kinds,
        top.memory,
      )

  if-out : (i : Instr) (c : Config) (n : ℕ) (vs : List Value) → branch_if s h c n i.index vs ≡ ended ws m
      → Out i (control BrIf) (length c.labels) vs c.state.memory
  if-out i c n [] e = absurd (on-halted e)
  if-out i c n (I32 a ∷ st) e = by (eqb a 0) refl e
    where
      σ : State
      σ = with_stack c.state st

      by : (t : Bool) → eqb a 0 ≡ t
          → cond t (going (record { place = c.place + n; state = σ; labels = c.labels })) (branch s h σ i.index c.labels) ≡ ended ws m
          → Out i (control BrIf) (length c.labels) (I32 a ∷ st) c.state.memory
      by true z q = absurd (on-going _ q)
      by false z q =
          let out = branch-out σ i.index c.labels q in
          let top = out.1 in (
            subst (λ (n : ℕ). Exits i (control BrIf) n (I32 a ∷ st) ws) out.0
                (subst (λ (vs : List Value). Exits i (control BrIf) i.index (I32 a ∷ vs) ws) (sym top.stack) (by_br_if top.below (eqb-false a 0 z))),
            top.kinds,
            top.memory,
          )
  if-out i c n (I64 a ∷ st) e = absurd (on-halted e)
  if-out i c n (V128 a ∷ st) e = absurd (on-halted e)

  after-done : (c : Config) (n : ℕ) (o : Outcome) → after c n o ≡ ended ws m → (o ≡ done ws) × (m ≡ c.state.memory)
  after-done c n (goes σ) e = absurd (either (ltb stack_limit (length σ.stack + count_under c.labels)) on-halted (on-going _) e)
  after-done c n (done vs) e = let same : vs ≡ ws = cc (e) in (ap done same, cc (e))
  after-done c n (trap a k) e = absurd (on-trapped a k e)
  after-done c n stuck e = absurd (on-halted e)

  plain_out : (c : Config) (n : ℕ) (i : Instr) (p : Plain) (ls : List Label) → step_plain h c n i p ls ≡ ended ws m
      → Out i (plain p) (length ls) c.state.stack c.state.memory
  plain_out c n i p [] e =
      let out = after-done c n (exec h.results (plain p) i c.state) e in
      let ends = done-ends h.results i c.state (plain p) ws out.0 in (
        subst (λ (k : Code). Exits i k 0 c.state.stack ws) (sym ends.0)
            (subst (λ (vs : List Value). Exits i (plain End) 0 vs ws) (sym (turned c.state.stack ends.2)) by_end),
        turned-kinds c.state.stack ends.2 (fit-kinds c.state.stack (reverse h.results) ends.1),
        out.1,
      )
  plain_out c n i p (l ∷ ls) e = absurd (by (is_end p) refl e)
    where
      by : (t : Bool) → is_end p ≡ t → Unended (cond t (leave n c l ls) (after c n (exec h.results (plain p) i c.state)))
      by true f q = either (of_kinds c.state.stack (reverse l.results)) (on-going _) on-halted q
      by false f q =
          let ends = done-ends h.results i c.state (plain p) ws (after-done c n (exec h.results (plain p) i c.state) q).0 in
          not-false (sym f ∙ ap is_end (plain-once ends.0))

  vector_on : (c : Config) (n : ℕ) (i : Instr) (o : Op) → Unended (after c n (exec h.results (vector o) i c.state))
  vector_on c n i o e =
      let ends = (done-ends h.results i c.state (vector o) ws (after-done c n (exec h.results (vector o) i c.state) e).0).0 in
      let z : ◌≡◌ {A = ℕ} 0 1 = cc (ends) in omega arith

  code_out : (c : Config) (n : ℕ) (i : Instr) (k : Code) → step_code s h c n i k ≡ ended ws m
      → Out i k (length c.labels) c.state.stack c.state.memory
  code_out c n i (plain p) e = plain_out c n i p c.labels e
  code_out c n i (control Block) e = absurd (either (ltb (length c.labels) nest_limit) (on-going _) on-halted e)
  code_out c n i (control Loop) e = absurd (either (ltb (length c.labels) nest_limit) (on-going _) on-halted e)
  code_out c n i (control Br) e = br-out i c.state c.labels e
  code_out c n i (control BrIf) e = if-out i c n c.state.stack e
  code_out c n i (vector o) e = absurd (vector_on c n i o e)

  -- an instruction that is read
  pub code-finishes : (c : Config) {i : Instr} {k : Code} {n : ℕ} → Reads h.version s c.place i k n → step_code s h c n i k ≡ ended ws m
      → Finishes s h c ws m
  code-finishes c {i} {k} {n} r e =
      let out = code_out c n i k e in record { instr = i; code = k; size = n; reads = r; exits = out.0; kinds = out.1; memory = out.2 }

  -- ---- and where the strip is left the machine ends

  module _ (c : Config) (n : ℕ) (kinds : map kind_of ws ≡ h.results) (mem : m ≡ c.state.memory) where
    many : length (reverse ws) ≡ length h.results
    many = length-reverse ws ∙ sym (length-map ws kind_of) ∙ ap length kinds

    down-kinds : (vs : List Value) → vs ≡ reverse ws → map kind_of vs ≡ reverse h.results
    down-kinds vs e = ap (map kind_of) e ∙ reverse-kinds ws ∙ ap reverse kinds

    up-again : (vs : List Value) → vs ≡ reverse ws → ended (reverse vs) c.state.memory ≡ ended ws m
    up-again vs e = ap₂ ended (ap reverse e ∙ reverse-reverse ws) (sym mem)

    branches-out : (st below : List Value) (x : ℕ) → x ≡ length c.labels → st ≡ reverse ws ++ below
        → branch s h (with_stack c.state st) x c.labels ≡ ended ws m
    branches-out st below x far e =
        let σ = with_stack c.state st in
        let up : take (length h.results) st ≡ reverse ws = ap (take (length h.results)) e ∙ take_at (reverse ws) below (length h.results) many in
        ap (λ (y : ℕ). branch s h σ y c.labels) far ∙ out_of s h σ c.labels
        ∙ goes-along h.results st (λ vs. ended (reverse vs) c.state.memory) (down-kinds (take (length h.results) st) up)
        ∙ up-again (take (length h.results) st) up

    end-here : (i : Instr) (ls : List Label) → 0 ≡ length ls → c.state.stack ≡ reverse ws → step_plain h c n i End ls ≡ ended ws m
    end-here i [] z e =
        ap (λ (t : Bool). after c n (cond t (done (reverse c.state.stack)) stuck))
        (kinds-fit c.state.stack (reverse h.results) (down-kinds c.state.stack e)) ∙ up-again c.state.stack e
    end-here i (l ∷ ls) z e = absurd (let z : ⊥ = omega arith in z)

    exits-end : {i : Instr} {k : Code} {far : ℕ} {st : List Value} → Exits i k far st ws → far ≡ length c.labels → c.state.stack ≡ st
        → step_code s h c n i k ≡ ended ws m
    exits-end {i} by_end far e = end-here i c.labels far e
    exits-end {i} (by_br below) far e = branches-out c.state.stack below i.index far e
    exits-end {i} (by_br_if {x} below taken) far e =
        let st = reverse ws ++ below in
        let σ = with_stack c.state st in
        ap (branch_if s h c n i.index) e
        ∙ ap (λ (t : Bool). cond t (going (record { place = c.place + n; state = σ; labels = c.labels })) (branch s h σ i.index c.labels)) (ne_eqb x 0 taken)
        ∙ branches-out st below i.index far refl

  -- EXACTLY, in whatever state; a strip is bytes
  pub ended-exact : bytes s → (c : Config) → (step s h c ≡ ended ws m) ↔ Finishes s h c ws m
  ended-exact b c = (
    of-step s b h c (λ g. g ≡ ended ws m → Finishes s h c ws m) (λ e. absurd (on-halted e)) (λ n i k r. code-finishes c r),
    λ t. step-does h c t.reads ∙ exits-end c t.size t.kinds t.memory t.exits refl refl,
  )
