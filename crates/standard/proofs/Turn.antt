-- A strip that keeps the rules: in a sound state the next instruction is read and done, the machine is not stuck, and what it leaves is sound.
use Prim.Native.Nat.{ℕ, ◌+◌, ◌≤◌}
use mathlib.Core.Path.{◌≡◌, refl, ap, ap₂, sym, ◌∙◌, subst}
use mathlib.Core.Bool.{Bool, true, false, cond}
use mathlib.Core.List.{List, [], ◌∷◌, ◌++◌, map, reverse, reverse-append, reverse-reverse, append_assoc}
use native.Mathlib.Omega.{arith}
use lib.Dec.{eqb}
use lib.ListN.{length, length-map, length-append, length-reverse}
use borrow.Author.Tests.{le-ltb, lt-ltb}
use Rattle.limits.specs.Limits.{stack_limit, nest_limit}
use Rattle.opcode.specs.Kind.{Kind, i32}
use Rattle.opcode.specs.BlockType.{block_results}
use Rattle.opcode.specs.Table.{End, Code, plain}
use Rattle.instr.specs.declared.Instr.{Instr}
use Rattle.machine.specs.Value.{Value, I32, I64, V128, kind_of, AllInRange}
use Rattle.machine.specs.Exec.{State, Outcome, goes, done, stuck, exec}
use Rattle.rules.specs.Header.{Header, locals}
use Rattle.rules.specs.Typing.{Frame, opened, holding, branch_kinds, all_values, Target, Typed, Types, ordinary, branches, may_branch, opens_block, opens_loop, closes, Ends, ends, Live}
use Rattle.rules.specs.Strip.{Reads, Within, Reaches, past, Valid}
use Rattle.rules.proofs.Typings.{end-untyped, control-untyped}
use Rattle.standard.specs.Standard.{Label, Config, Stage, going, ended, trapped, halted, with_stack, count_under, after, enter, branch, branch_if, step_plain, step_code, step}
use Rattle.standard.specs.Safety.{Nested, outermost, inside, Fits, Sound, Strays, Finishes, Safe, safe_going, safe_ended, safe_trapped}
use Rattle.standard.proofs.ValueKinds.{reverse-kinds, reverse-range, kinds-fit}
use Rattle.standard.proofs.Fine.{Kept, Fine, on, past as trapped-past}
use Rattle.standard.proofs.Typeds.{Ranged, typed-fine}
use Rattle.standard.proofs.Along.{no_steps}
use Rattle.standard.proofs.Steps.{step-does, does-ordinary, apt}
use Rattle.standard.proofs.Straying.{strays-there, reads-strays}
use Rattle.standard.proofs.Nestings.{nested-many, nested-under, nested_same, live-has}
use Rattle.standard.proofs.Unwinding.{Next, last, goes_on, what-next}
use Rattle.standard.proofs.Tops.{kinds-append, range-append}
use Rattle.standard.proofs.Branching.{rest_of, fits-with, Finishing, branch-safe}
use Rattle.standard.proofs.Finishing.{code-finishes}

pub ranged : {s : List ℕ} {h : Header} {f : Frame} {fs : List Frame} {c : Config} → Fits s h f fs c → Ranged c.state
ranged t = record { stack = t.stack_range; locals = t.local_range; memory = λ k. record { fits = t.memory_range k } }

-- ---- an ordinary instruction

module _ {s : List ℕ} {h : Header} {f : Frame} {fs : List Frame} (c : Config) (fits : Fits s h f fs c) where
  -- typed by the rules
  pub typed-runs : {p n : ℕ} {i : Instr} {k : Code} {ins outs : List Kind} (below : List Kind) → Reads h.version s p i k n
      → Typed (locals h) i.index k ins outs → f.values ≡ below ++ ins
      → length (below ++ outs) ≤ stack_limit → Fine c.state (reverse (below ++ outs)) (exec h.results k i c.state)
  typed-runs {i = i} {k} {ins} {outs} below r t e room =
      let left = reverse-append below outs in
      subst (λ (ks : List Kind). Fine c.state ks (exec h.results k i c.state)) (sym left)
      (typed-fine h.results i (apt r.stands.typed) c.state (ranged fits) h.version r.does
      (subst (λ (ls : List Kind). Typed ls i.index k ins outs) (sym fits.held) t)
      (reverse below) (fits.stacked ∙ ap reverse e ∙ reverse-append below ins) (omega (arith, room, ap length left, length-reverse (below ++ outs))))

  pub kept-fits : {ks : List Kind} {τ : State} (p : ℕ) → Kept c.state (reverse ks) τ
      → Fits s h (holding f ks) fs (record { place = p; state = τ; labels = c.labels })
  kept-fits {ks} p k =
      record {
        stacked = k.stack.kinds;
        nested = nested_same ks fits.nested;
        held = k.locals.kinds ∙ fits.held;
        stack_range = k.stack.range;
        local_range = k.locals.range;
        memory_range = λ j. (k.memory j).fits;
      }

  -- the stack is not full
  pub goes_after : {ks : List Kind} {τ : State} (n : ℕ) → Within (holding f ks ∷ fs) → Kept c.state (reverse ks) τ
      → after c n (goes τ) ≡ going (record { place = c.place + n; state = τ; labels = c.labels })
  goes_after {ks} {τ} n w k =
      ap (λ (t : Bool). cond t halted (going (record { place = c.place + n; state = τ; labels = c.labels })))
      (le-ltb stack_limit (length τ.stack + count_under c.labels)
      (omega (
        arith,
        w.values,
        length-append (all_values fs) ks,
        nested-under fits.nested,
        length-map τ.stack kind_of,
        ap length k.stack.kinds,
        length-reverse ks,
      )))

  pub fine-safe : {ks : List Kind} {n : ℕ} {i : Instr} {k : Code} {o : Outcome} → Reads h.version s c.place i k n
      → exec h.results k i c.state ≡ o → Live (f ∷ fs) → Reaches s h c.place (f ∷ fs)
      → Within (holding f ks ∷ fs) → Reaches s h (c.place + n) (holding f ks ∷ fs) → Fine c.state (reverse ks) o → Safe s h c (after c n o)
  fine-safe {ks} {n} r e live here w reached (on {τ} k) =
      subst (Safe s h c) (sym (goes_after n w k))
      (safe_going (record { frame = holding f ks; outer = fs; reached = reached; live = live; fits = kept-fits (c.place + n) k }) k.long)
  fine-safe r e live here w reached (trapped-past l) =
      safe_trapped 0 (no_steps s h c) (record { frame = f; outer = fs; reached = here; live = live; fits = fits }) refl (strays-there h c r e)

module _ {s : List ℕ} (v : Valid s) (c : Config) where
  abbrev h : Header
  h = v.header

  abbrev Good : Stage → Type 0
  Good g = Safe s h c g

  -- ---- blocks

  entered : (b : Bool) (i : Instr) (n : ℕ) {f : Frame} {fs : List Frame} → Fits s h f fs c → Live (f ∷ fs)
      → Within (opened b (block_results i.block) ∷ f ∷ fs)
      → Reaches s h (c.place + n) (opened b (block_results i.block) ∷ f ∷ fs) → Good (enter b i n c)
  entered b i n {f} {fs} fits live w reached =
      let l : Label = record { loop = b; results = block_results i.block; under = c.state.stack; body = c.place + n } in
      let next : Config = record { place = c.place + n; state = with_stack c.state []; labels = l ∷ c.labels } in
      subst Good
      (sym (ap (λ (t : Bool). cond t (going next) halted) (lt-ltb (length c.labels) nest_limit (omega (arith, w.blocks, nested-many fits.nested)))))
      (safe_going (record {
        frame = opened b (block_results i.block);
        outer = f ∷ fs;
        reached = reached;
        live = (refl, live);
        fits = fits-with (c.place + n) [] (l ∷ c.labels) (rest_of fits) refl tt (inside refl refl fits.stacked fits.stack_range reached fits.nested);
      }) refl)

  left : (n : ℕ) (i : Instr) {f g : Frame} {fs : List Frame} → Fits s h f (g ∷ fs) c → Live (g ∷ fs) → f.values ≡ f.results
      → Reaches s h (c.place + n) (holding g (g.values ++ f.results) ∷ fs) → Good (step_plain h c n i End c.labels)
  left n i {f} {g} {fs} fits live e reached = by c.labels fits.nested
    where
      by : (ls : List Label) → Nested s h (f ∷ g ∷ fs) ls → Good (step_plain h c n i End ls)
      by ls (inside {l = l} {ls = ls'} a b k d q nested) =
          let kinds : map kind_of c.state.stack ≡ reverse l.results = fits.stacked ∙ ap reverse (e ∙ sym b) in
          let next : Config = record { place = c.place + n; state = with_stack c.state (c.state.stack ++ l.under); labels = ls' } in
          subst Good (sym (ap (λ (t : Bool). cond t (going next) halted) (kinds-fit c.state.stack (reverse l.results) kinds)))
          (safe_going (record {
            frame = holding g (g.values ++ f.results);
            outer = fs;
            reached = reached;
            live = live;
            fits =
                fits-with (c.place + n) (c.state.stack ++ l.under) ls' (rest_of fits)
                (kinds-append c.state.stack l.under ∙ ap₂ (λ (x y : List Kind). x ++ y) (kinds ∙ ap reverse b) k ∙ sym (reverse-append g.values f.results))
                (range-append c.state.stack l.under fits.stack_range d) (nested_same (g.values ++ f.results) nested);
          }) refl)

  -- ---- br_if

  module _ {f g : Frame} {fs : List Frame} (fits : Fits s h f fs c) (live : Live (f ∷ fs)) (x n : ℕ) (below : List Kind) (target : Target (f ∷ fs) x g)
      (has : f.values ≡ below ++ (branch_kinds g ++ i32 ∷ [])) (sound : Sound s h c) (reached : Reaches s h (c.place + n) (holding f (below ++ branch_kinds g) ∷ fs)) where
    on-top : reverse f.values ≡ i32 ∷ reverse (below ++ branch_kinds g)
    on-top = ap reverse (has ∙ sym (append_assoc below (branch_kinds g) (i32 ∷ []))) ∙ reverse-append (below ++ branch_kinds g) (i32 ∷ [])

    under : (k : Kind) (ks : List Kind) → k ∷ ks ≡ reverse f.values → (k ≡ i32) × (ks ≡ reverse (below ++ branch_kinds g))
    under k ks e = let all : k ∷ ks ≡ i32 ∷ reverse (below ++ branch_kinds g) = e ∙ on-top in (cc (all), cc (all))

    pub decided : (vs : List Value) → map kind_of vs ≡ reverse f.values → AllInRange vs → Finishing s h c (branch_if s h c n x vs)
        → Good (branch_if s h c n x vs)
    decided [] e r finishes = absurd (let z : ◌≡◌ {A = ℕ} 0 1 = cc (e, on-top) in omega arith)
    decided (I32 a ∷ st) e r finishes = by (eqb a 0) finishes
      where
        on : Stage
        on = going (record { place = c.place + n; state = with_stack c.state st; labels = c.labels })

        away : Stage
        away = branch s h (with_stack c.state st) x c.labels

        by : (t : Bool) → Finishing s h c (cond t on away) → Good (cond t on away)
        by true q =
            safe_going (record {
              frame = holding f (below ++ branch_kinds g);
              outer = fs;
              reached = reached;
              live = live;
              fits = fits-with (c.place + n) st c.labels (rest_of fits) (under i32 (map kind_of st) e).1 r.1 (nested_same (below ++ branch_kinds g) fits.nested);
            }) refl
        by false q =
            branch-safe v c sound (with_stack c.state st) refl (record { held = fits.held; local_range = fits.local_range; memory_range = fits.memory_range })
            r.1 below target fits.nested live (under i32 (map kind_of st) e).1 q
    decided (I64 a ∷ st) e r finishes = absurd (let same = (under _ (map kind_of st) e).0 in let z : ◌≡◌ {A = ℕ} 0 1 = cc (same) in omega arith)
    decided (V128 a ∷ st) e r finishes = absurd (let same = (under _ (map kind_of st) e).0 in let z : ◌≡◌ {A = ℕ} 0 1 = cc (same) in omega arith)

  -- ---- each instruction

  here : {f : Frame} {fs : List Frame} → Fits s h f fs c → Live (f ∷ fs) → Reaches s h c.place (f ∷ fs) → Sound s h c
  here {f} {fs} fits live reached = record { frame = f; outer = fs; reached = reached; live = live; fits = fits }

  typed-safe : {f : Frame} {fs : List Frame} {n : ℕ} {i : Instr} {k : Code} {fs' : List Frame} → Fits s h f fs c → Live (f ∷ fs) → Reaches s h c.place (f ∷ fs)
      → Reads h.version s c.place i k n
      → Types (locals h) i k (f ∷ fs) fs' → Within fs' → Good (step_code s h c n i k)
  typed-safe {fs = fs} {n = n} {i} {k} fits live reached r (ordinary {outs = outs} {below = below} {f = f} t x) w =
      subst Good (sym (does-ordinary s h c n i k (end-untyped t) (λ y. control-untyped t)))
      (fine-safe c fits r refl live reached w (past reached r (ordinary t x) w)
      (typed-runs c fits below r t (live-has live.0 x) (omega (arith, w.values, length-append (all_values fs) (below ++ outs)))))
  typed-safe {fs = fs} fits live reached r (branches {below = below} {f = f} {g = g} l x) w =
      branch-safe v c (here fits live reached) c.state refl (rest_of fits) fits.stack_range below l fits.nested live
      (fits.stacked ∙ ap reverse (live-has live.0 x)) (λ vs m e. code-finishes s h vs m c r e)
  typed-safe {fs = fs} {n = n} {i} fits live reached r (may_branch {below = below} {f = f} {g = g} l x) w =
      decided fits live i.index n below l (live-has live.0 x) (here fits live reached) (past reached r (may_branch l x) w)
      c.state.stack fits.stacked fits.stack_range (λ vs m e. code-finishes s h vs m c r e)
  typed-safe {n = n} {i} fits live reached r opens_block w = entered false i n fits live w (past reached r opens_block w)
  typed-safe {n = n} {i} fits live reached r opens_loop w = entered true i n fits live w (past reached r opens_loop w)
  typed-safe {n = n} {i} fits live reached r (closes (ends x)) w = left n i fits live.1 (live-has live.0 x) (past reached r (closes (ends x)) w)

  -- the strip's `end`
  ended-safe : (n : ℕ) (i : Instr) {f : Frame} → Fits s h f [] c → Live (f ∷ []) → Reaches s h c.place (f ∷ []) → Ends (f ∷ [])
      → Finishing s h c (step_plain h c n i End c.labels) → Good (step_plain h c n i End c.labels)
  ended-safe n i {f} fits live reached (ends x) finishes = by c.labels fits.nested finishes
    where
      by : (ls : List Label) → Nested s h (f ∷ []) ls → Finishing s h c (step_plain h c n i End ls) → Good (step_plain h c n i End ls)
      by ls (outermost a b) q =
          let kinds : map kind_of c.state.stack ≡ reverse h.results = fits.stacked ∙ ap reverse (live-has live.0 x ∙ b) in
          let all : after c n (exec h.results (plain End) i c.state) ≡ ended (reverse c.state.stack) c.state.memory =
          ap (λ (t : Bool). after c n (cond t (done (reverse c.state.stack)) stuck)) (kinds-fit c.state.stack (reverse h.results) kinds) in
          subst Good (sym all)
          (safe_ended 0 (no_steps s h c) (here fits live reached) (q (reverse c.state.stack) c.state.memory all)
          (reverse-kinds c.state.stack ∙ ap reverse kinds ∙ reverse-reverse h.results) (reverse-range c.state.stack fits.stack_range) refl)

  next-safe : {f : Frame} {fs : List Frame} → Fits s h f fs c → Live (f ∷ fs) → Reaches s h c.place (f ∷ fs) → Next s h c.place (f ∷ fs)
      → Good (step s h c)
  next-safe fits live reached (last {i = i} r e) = subst Good (sym (step-does h c r)) (ended-safe 1 i fits live reached e (λ vs m q. code-finishes s h vs m c r q))
  next-safe fits live reached (goes_on r t w) = subst Good (sym (step-does h c r)) (typed-safe fits live reached r t w)

  pub safe-step : Sound s h c → Safe s h c (step s h c)
  safe-step sound = next-safe sound.fits sound.live sound.reached (what-next v sound.reached)

  -- a step that traps is one at an access past the memory's end
  pub sound-strays : Sound s h c → {a m : ℕ} → step s h c ≡ trapped a m → Strays s h c a m
  sound-strays sound {a} {m} e = by (what-next v sound.reached)
    where
      by : {fs : List Frame} → Next s h c.place fs → Strays s h c a m
      by (last r x) = reads-strays s h a m c r e
      by (goes_on r t w) = reads-strays s h a m c r e

  -- a step that ends is one that leaves the strip
  pub sound-finishes : Sound s h c → {vs : List Value} {m : List ℕ} → step s h c ≡ ended vs m → Finishes s h c vs m
  sound-finishes sound {vs} {m} e = by (what-next v sound.reached)
    where
      by : {fs : List Frame} → Next s h c.place fs → Finishes s h c vs m
      by (last r x) = code-finishes s h vs m c r (sym (step-does h c r) ∙ e)
      by (goes_on r t w) = code-finishes s h vs m c r (sym (step-does h c r) ∙ e)
