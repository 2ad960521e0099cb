-- WHO MAY TRAP, of the standard's machine: in any state, of any strip, a step traps exactly where the instruction that stands there accesses bytes
-- past the memory's end.
use Prim.Native.Nat.{ℕ, zero, suc, ◌+◌}
use mathlib.Core.Path.{◌≡◌, refl, ap, ap₂, sym, ◌∙◌}
use mathlib.Core.Bool.{Bool, true, false, cond}
use mathlib.Core.List.{List, [], ◌∷◌, reverse}
use mathlib.Core.Option.{Option, none, some}
use mathlib.Core.Logic.{◌↔◌}
use native.Mathlib.Omega.{arith}
use lib.Dec.{eqb, ltb}
use lib.ListN.{length, take}
use Rattle.limits.specs.Limits.{stack_limit, nest_limit}
use Rattle.leb128.specs.Bytes.{bytes}
use Rattle.opcode.specs.Kind.{Kind}
use Rattle.opcode.specs.Table.{Block, Loop, Br, BrIf, Code, plain, control, vector}
use Rattle.instr.specs.declared.Instr.{Instr}
use Rattle.machine.specs.Value.{Value, I32, I64, V128}
use Rattle.machine.specs.Exec.{State, Outcome, goes, done, trap, stuck, of_kinds, exec}
use Rattle.machine.specs.Accesses.{Accesses, load, load_extend, load_splat, load_zero, load_lane, store, store_lane}
use Rattle.machine.proofs.Traps.{traps-exact}
use Rattle.rules.specs.Header.{Header}
use Rattle.rules.specs.Strip.{Reads}
use Rattle.standard.specs.Closing.{is_end, close}
use Rattle.standard.specs.Standard.{Label, Config, Stage, going, ended, trapped, halted, with_stack, count_under, after, leave, along, beyond, branch, branch_if, step_plain, step_code, step}
use Rattle.standard.specs.Safety.{Strays}
use Rattle.standard.proofs.Steps.{step-does, of-step}

-- ---- what an instruction that is read comes to

pub strays-there : {s : List ℕ} (h : Header) (c : Config) {i : Instr} {k : Code} {n : ℕ} → Reads h.version s c.place i k n → {a m : ℕ}
    → exec h.results k i c.state ≡ trap a m
    → Strays s h c a m
strays-there h c {i} {k} {n} r {a} {m} e =
    let at = (traps-exact h.results i c.state k a m).0 e in record { instr = i; code = k; size = n; reads = r; accesses = at.0; past = at.1 }

-- ---- nothing else traps

module _ (s : List ℕ) (h : Header) (a m : ℕ) where
  abbrev Calm : Stage → Type 0
  Calm g = g ≡ trapped a m → ⊥

  calm-going : (c : Config) → Calm (going c)
  calm-going c e = let z : ◌≡◌ {A = ℕ} 0 1 = cc (e) in omega arith

  calm-ended : (vs : List Value) (mem : List ℕ) → Calm (ended vs mem)
  calm-ended vs mem e = let z : ◌≡◌ {A = ℕ} 0 1 = cc (e) in omega arith

  calm-halted : Calm halted
  calm-halted e = let z : ◌≡◌ {A = ℕ} 0 1 = cc (e) in omega arith

  either : (t : Bool) {g g' : Stage} → Calm g → Calm g' → Calm (cond t g g')
  either true x y = x
  either false x y = y

  calm-along : (ks : List Kind) (vs : List Value) (f : List Value → Stage) → ((ws : List Value) → Calm (f ws)) → Calm (along ks vs f)
  calm-along ks vs f next = either (of_kinds (take (length ks) vs) (reverse ks)) (next (take (length ks) vs)) calm-halted

  calm-beyond : (σ : State) (l : Label) (ls : List Label) (vs : List Value) (q : Option ℕ) → Calm (beyond σ l ls vs q)
  calm-beyond σ l ls vs none = calm-halted
  calm-beyond σ l ls vs (some q) = calm-going _

  calm_branch : (σ : State) (n : ℕ) (ls : List Label) → Calm (branch s h σ n ls)
  calm_branch σ zero [] = calm-along h.results σ.stack _ (λ vs. calm-ended (reverse vs) σ.memory)
  calm_branch σ (suc n) [] = calm-halted
  calm_branch σ zero (l ∷ ls) =
      either l.loop (calm-going _) (calm-along l.results σ.stack _ (λ vs. calm-beyond σ l ls vs (close h.version s l.body)))
  calm_branch σ (suc n) (l ∷ ls) = calm_branch σ n ls

  calm-if : (c : Config) (n x : ℕ) (vs : List Value) → Calm (branch_if s h c n x vs)
  calm-if c n x [] = calm-halted
  calm-if c n x (I32 b ∷ st) = either (eqb b 0) (calm-going _) (calm_branch (with_stack c.state st) x c.labels)
  calm-if c n x (I64 b ∷ st) = calm-halted
  calm-if c n x (V128 b ∷ st) = calm-halted

  after-traps : (c : Config) (n : ℕ) (o : Outcome) → after c n o ≡ trapped a m → o ≡ trap a m
  after-traps c n (goes σ) e = absurd (either (ltb stack_limit (length σ.stack + count_under c.labels)) calm-halted (calm-going _) e)
  after-traps c n (done vs) e = absurd (calm-ended vs c.state.memory e)
  after-traps c n (trap b k) e = let x : b ≡ a = cc (e) in let y : k ≡ m = cc (e) in ap₂ trap x y
  after-traps c n stuck e = absurd (calm-halted e)

  code-traps : (c : Config) (n : ℕ) (i : Instr) (k : Code) → step_code s h c n i k ≡ trapped a m → exec h.results k i c.state ≡ trap a m
  code-traps c n i (plain p) d = by c.labels d
    where
      by : (ls : List Label) → step_plain h c n i p ls ≡ trapped a m → exec h.results (plain p) i c.state ≡ trap a m
      by [] e = after-traps c n (exec h.results (plain p) i c.state) e
      by (l ∷ ls) e = at (is_end p) e
        where
          at : (t : Bool) → cond t (leave n c l ls) (after c n (exec h.results (plain p) i c.state)) ≡ trapped a m
              → exec h.results (plain p) i c.state ≡ trap a m
          at true q = absurd (either (of_kinds c.state.stack (reverse l.results)) (calm-going _) calm-halted q)
          at false q = after-traps c n (exec h.results (plain p) i c.state) q
  code-traps c n i (control Block) e = absurd (either (ltb (length c.labels) nest_limit) (calm-going _) calm-halted e)
  code-traps c n i (control Loop) e = absurd (either (ltb (length c.labels) nest_limit) (calm-going _) calm-halted e)
  code-traps c n i (control Br) e = absurd (calm_branch c.state i.index c.labels e)
  code-traps c n i (control BrIf) e = absurd (calm-if c n i.index c.state.stack e)
  code-traps c n i (vector o) e = after-traps c n (exec h.results (vector o) i c.state) e

  pub reads-strays : (c : Config) {i : Instr} {k : Code} {n : ℕ} → Reads h.version s c.place i k n → step s h c ≡ trapped a m → Strays s h c a m
  reads-strays c {i} {k} {n} r e = strays-there h c r (code-traps c n i k (sym (step-does h c r) ∙ e))

  -- ---- and an access past the end does

  access-vector : {i : Instr} {k : Code} {st : List Value} {b j : ℕ} (c : Config) (n : ℕ) → Accesses i k st b j
      → step_code s h c n i k ≡ after c n (exec h.results k i c.state)
  access-vector c n load = refl
  access-vector c n load_extend = refl
  access-vector c n load_splat = refl
  access-vector c n load_zero = refl
  access-vector c n load_lane = refl
  access-vector c n store = refl
  access-vector c n store_lane = refl

  strays-traps : (c : Config) → Strays s h c a m → step s h c ≡ trapped a m
  strays-traps c t =
      step-does h c t.reads ∙ access-vector c t.size t.accesses
      ∙ ap (after c t.size) ((traps-exact h.results t.instr c.state t.code a m).1 (t.accesses, t.past))

  -- EXACTLY, in whatever state; a strip is bytes
  pub trapped-exact : bytes s → (c : Config) → (step s h c ≡ trapped a m) ↔ Strays s h c a m
  trapped-exact b c = (
    of-step s b h c (λ g. g ≡ trapped a m → Strays s h c a m) (λ e. absurd (calm-halted e)) (λ n i k r e. strays-there h c r (code-traps c n i k e)),
    strays-traps c,
  )
