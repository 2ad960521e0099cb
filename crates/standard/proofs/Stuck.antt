-- DEMAND 3, second half: where a strip breaks 12 to 15, 17 or 18, the standard's machine is stuck, in whatever live state it comes there.
use Prim.Native.Nat.{ℕ, ◌+◌, ◌≤◌, ◌<◌}
use mathlib.Core.Path.{◌≡◌, refl, ap, sym, ◌∙◌, subst}
use mathlib.Core.Bool.{Bool, true, false, cond}
use mathlib.Core.List.{List, [], ◌∷◌, ◌++◌, map, reverse, append_assoc, reverse-reverse}
use native.Mathlib.Omega.{arith}
use lib.ListN.{length, length-map, length-append, length-reverse}
use borrow.Author.Tests.{le-ltb}
use Rattle.card.specs.Card.{LOCAL, TRAILING}
use Rattle.limits.specs.Limits.{stack_limit, nest_limit}
use Rattle.leb128.specs.Bytes.{bytes}
use Rattle.opcode.specs.Kind.{Kind, i32}
use Rattle.opcode.specs.BlockType.{block_results}
use Rattle.opcode.specs.Table.{End, Control, Block, Loop, Br, BrIf, Code, plain, control, vector}
use Rattle.instr.specs.declared.Instr.{Instr}
use Rattle.instr.specs.Refuses.{Refuses}
use Rattle.instr.proofs.Stands.{decoded-stands}
use Rattle.instr.proofs.Refuses.{stands-refuses}
use Rattle.machine.specs.Value.{kind_of}
use Rattle.machine.specs.Exec.{stuck, of_kinds, exec}
use Rattle.rules.specs.Header.{Header, locals}
use Rattle.rules.specs.Typing.{Frame, branch_kinds, all_values, Target, Local, all_known, Types, ordinary, branches, may_branch, opens_block, opens_loop, closes, Live}
use Rattle.rules.specs.Typing.{Names, Opens, block_opens, loop_opens, Branches, br_branches, if_branches, Ends, ends}
use Rattle.rules.specs.Strip.{Reads, Reaches}
use Rattle.rules.specs.Breach.{Refused, At, Breach, long, stub, unmarked, other_version, parameters, further, results, kind, kinds_short, short, block_type}
use Rattle.rules.specs.Breach.{opcode, float, number, lane, align, local, nest, label, operand, deep, result, trailing}
use Rattle.rules.proofs.Headers.{declares-once}
use Rattle.rules.proofs.Typings.{end-untyped, control-untyped}
use Rattle.rules.proofs.Sorts.{names-control, end-nameless}
use Rattle.rules.proofs.Onward.{declared, reached-within, reached-once}
use Rattle.standard.specs.Standard.{Label, Config, going, halted, with_stack, count_under, after, enter, step_plain, step}
use Rattle.standard.specs.Safety.{Nested, outermost, inside, Fits, Sound, StuckHere, stuck_here, not_taken}
use Rattle.standard.proofs.ValueKinds.{fit-kinds}
use Rattle.standard.proofs.Steps.{step-does, step-halts, does-ordinary}
use Rattle.standard.proofs.Nestings.{nested-many, nested-under, live-has}
use Rattle.standard.proofs.Untyped.{undeclared-stuck, untyped-stuck, end-stuck}
use Rattle.standard.proofs.Full as full
use Rattle.standard.proofs.Sticking.{no-branch, lacking-branch, IfStuck, if-halts, if-zero, if-stuck, under_top}

-- ---- one instruction in a live state

module _ {s : List ℕ} {h : Header} (c : Config) {f : Frame} {fs : List Frame} (live : Live (f ∷ fs)) (fits : Fits s h f fs c) (n : ℕ) (i : Instr) where
  -- it is stuck by itself
  by_itself : {k : Code} → Reads h.version s c.place i k n → (k ≡ plain End → ⊥) → ((x : Control) → k ≡ control x → ⊥)
      → exec h.results k i c.state ≡ stuck → StuckHere s h c
  by_itself {k} r e x q = stuck_here (step-does h c r ∙ does-ordinary s h c n i k e x ∙ ap (after c n) q)

  undeclared : {k : Code} → Reads h.version s c.place i k n → Names k → ((j : Kind) → Local (locals h) i.index j → ⊥) → StuckHere s h c
  undeclared {k} r names never =
      by_itself r (end-nameless names) (λ x. names-control names)
      (undeclared-stuck h.results i c.state (locals h) fits.held f.values fits.stacked k names never)

  -- ---- blocks

  not_entered : (b : Bool) → nest_limit < length (f ∷ fs) → enter b i n c ≡ halted
  not_entered b g =
      ap
      (λ (t : Bool). cond t
      (going (record {
        place = c.place + n;
        state = with_stack c.state [];
        labels = record { loop = b; results = block_results i.block; under = c.state.stack; body = c.place + n } ∷ c.labels;
      }))
      halted)
      (le-ltb (length c.labels) nest_limit (omega (arith, g, nested-many fits.nested)))

  too_nested : {k : Code} → Reads h.version s c.place i k n → Opens k → nest_limit < length (f ∷ fs) → StuckHere s h c
  too_nested r block_opens g = stuck_here (step-does h c r ∙ not_entered false g)
  too_nested r loop_opens g = stuck_here (step-does h c r ∙ not_entered true g)

  -- `end` without the results
  other-results : Reads h.version s c.place i (plain End) n → (Ends (f ∷ fs) → ⊥) → StuckHere s h c
  other-results r never = stuck_here (step-does h c r ∙ by c.labels fits.nested)
    where
      no-match : f.values ≡ f.results → ⊥
      no-match e = never (ends (all_known e))

      by : {gs : List Frame} (ls : List Label) → Nested s h (f ∷ gs) ls → step_plain h c n i End ls ≡ halted
      by ls (outermost a b) =
          ap (after c n) (end-stuck h.results i c.state (locals h) fits.held f.values fits.stacked (λ e. no-match (e ∙ sym b)))
      by ls (inside {l = l} {ls = ls'} a b k d e w) = test (of_kinds c.state.stack (reverse l.results)) refl
        where
          test : (t : Bool) → of_kinds c.state.stack (reverse l.results) ≡ t
              → cond t (going (record { place = c.place + n; state = with_stack c.state (c.state.stack ++ l.under); labels = ls' })) halted ≡ halted
          test true q =
              absurd (no-match (sym (reverse-reverse f.values) ∙ ap reverse (sym fits.stacked ∙ fit-kinds c.state.stack (reverse l.results) q)
              ∙ reverse-reverse l.results ∙ b))
          test false q = refl

  -- ---- branches

  if-or : Reads h.version s c.place i (control BrIf) n → IfStuck s h c n i.index c.state.stack → StuckHere s h c
  if-or r (if-halts q) = stuck_here (step-does h c r ∙ q)
  if-or r (if-zero st q) = not_taken st r q

  no_label : {k : Code} → Reads h.version s c.place i k n → Branches k → ((g : Frame) → Target (f ∷ fs) i.index g → ⊥) → StuckHere s h c
  no_label r br_branches never = stuck_here (step-does h c r ∙ no-branch s h c.state i.index fits.nested never)
  no_label r if_branches never =
      if-or r (if-stuck s h c n i.index c.state.stack (λ a st e. no-branch s h (with_stack c.state st) i.index fits.nested never))

  -- ---- operands

  abbrev Never : Code → Type 0
  Never k = (fs' : List Frame) → Types (locals h) i k (f ∷ fs) fs' → ⊥

  lacking-if : Reads h.version s c.place i (control BrIf) n → (g : Frame) → Target (f ∷ fs) i.index g → Never (control BrIf) → StuckHere s h c
  lacking-if r g t never =
      if-or r (if-stuck s h c n i.index c.state.stack (λ a st e.
      lacking-branch s h (with_stack c.state st) (reverse (map kind_of st)) (sym (reverse-reverse (map kind_of st))) fits.nested t
      (λ below q.
      never _ (may_branch {below = below} t (all_known (
      under_top f.values i32 (map kind_of st) (ap (map kind_of) (sym e) ∙ fits.stacked)
      ∙ ap (λ (ks : List Kind). ks ++ i32 ∷ []) q ∙ append_assoc below (branch_kinds g) (i32 ∷ [])))))))

  missing : (k : Code) → Reads h.version s c.place i k n → (k ≡ plain End → ⊥) → (Names k → (j : Kind) × Local (locals h) i.index j)
      → (Branches k → (g : Frame) × Target (f ∷ fs) i.index g) → Never k → StuckHere s h c
  missing (plain p) r e names labels never =
      by_itself r e (λ x q. let z : ◌≡◌ {A = ℕ} 0 1 = cc (q) in omega arith)
      (untyped-stuck h.results i c.state (locals h) fits.held f.values fits.stacked (plain p) e names
      (λ below ins outs t q. never _ (ordinary {below = below} t (all_known q))))
  missing (control Block) r e names labels never = absurd (never _ opens_block)
  missing (control Loop) r e names labels never = absurd (never _ opens_loop)
  missing (control Br) r e names labels never =
      let g = labels br_branches in
      stuck_here (step-does h c r
      ∙ lacking-branch s h c.state f.values fits.stacked fits.nested g.1
      (λ below q. never _ (branches {below = below} g.1 (all_known q))))
  missing (control BrIf) r e names labels never = let g = labels if_branches in lacking-if r g.0 g.1 never
  missing (vector o) r e names labels never =
      by_itself r e (λ x q. let z : ◌≡◌ {A = ℕ} 0 1 = cc (q) in omega arith)
      (untyped-stuck h.results i c.state (locals h) fits.held f.values fits.stacked (vector o) e names
      (λ below ins outs t q. never _ (ordinary {below = below} t (all_known q))))

-- ---- the stack is full

many : {s : List ℕ} {h : Header} (c : Config) {f : Frame} {fs : List Frame} → Fits s h f fs c
    → length c.state.stack + count_under c.labels ≡ length (all_values (f ∷ fs))
many c {f} {fs} fits =
    omega (
      arith,
      length-map c.state.stack kind_of,
      ap length fits.stacked,
      length-reverse f.values,
      nested-under fits.nested,
      length-append (all_values fs) f.values,
    )

too_deep : {s : List ℕ} {h : Header} (c : Config) {f : Frame} {fs : List Frame} → Live (f ∷ fs) → Fits s h f fs c
    → (n : ℕ) (i : Instr) {k : Code} {fs' : List Frame} → Reads h.version s c.place i k n → length (all_values (f ∷ fs)) ≤ stack_limit
    → Types (locals h) i k (f ∷ fs) fs'
    → stack_limit < length (all_values fs') → StuckHere s h c
too_deep {s} {h} c {fs = fs} live fits n i {k} r few (ordinary {ins = ins} {outs} {below} {f = f} t x) g =
    stuck_here
    (step-does h c r ∙ does-ordinary s h c n i k (end-untyped t) (λ y. control-untyped t)
    ∙ full.deep h.results i c n (omega (arith, few, many c fits)) t
    (omega (
      arith,
      g,
      many c fits,
      length-append (all_values fs) (below ++ outs),
      length-append below outs,
      ap length (live-has live.0 x),
      length-append below ins,
      length-append (all_values fs) f.values,
    )))
too_deep c {fs = fs} live fits n i r few (branches {f = f} l x) g =
    absurd (omega (arith, few, g, length-append (all_values fs) [], length-append (all_values fs) f.values))
too_deep c {fs = fs} live fits n i r few (may_branch {below = below} {f = f} {g = g'} l x) g =
    absurd (omega (
      arith,
      few,
      g,
      length-append (all_values fs) (below ++ branch_kinds g'),
      length-append (all_values fs) f.values,
      ap length (live-has live.0 x),
      length-append below (branch_kinds g'),
      length-append below (branch_kinds g' ++ i32 ∷ []),
      length-append (branch_kinds g') (i32 ∷ []),
    ))
too_deep c {f} {fs} live fits n i r few opens_block g = absurd (omega (arith, few, g, length-append (all_values (f ∷ fs)) []))
too_deep c {f} {fs} live fits n i r few opens_loop g = absurd (omega (arith, few, g, length-append (all_values (f ∷ fs)) []))
too_deep c live fits n i r few (closes {f = f} {g = g'} {fs = gs} (ends x)) g =
    absurd (omega (
      arith,
      few,
      g,
      length-append (all_values gs) (g'.values ++ f.results),
      length-append g'.values f.results,
      length-append (all_values gs ++ g'.values) f.values,
      length-append (all_values gs) g'.values,
      ap length (live-has live.0 x),
    ))

-- ---- the strip

-- stuck at a place, under the header that the strip declares
record Halts (s : List ℕ) (p : ℕ) : Type 0 where
  header : Header
  frames : List Frame
  reached : Reaches s header p frames
  stuck_at : (c : Config) → c.place ≡ p → Sound s header c → StuckHere s header c

-- in the frames with which the place is reached
halts : {s : List ℕ} {h : Header} {p : ℕ} {fs : List Frame} {i : Instr} {k : Code} (at : At s h p fs i k)
    → ((c : Config) (f : Frame) (gs : List Frame) → fs ≡ f ∷ gs → Reads h.version s c.place i k at.size → Live (f ∷ gs) → Fits s h f gs c
    → StuckHere s h c)
    → Halts s p
halts {s} {h} {p} {fs} {i} {k} at no_step =
    record {
      header = h;
      frames = fs;
      reached = at.reached;
      stuck_at = λ c here sound.
          no_step c sound.frame sound.outer
          (reached-once (subst (λ (q : ℕ). Reaches s h q fs) (sym here) at.reached) sound.reached)
          (subst (λ (q : ℕ). Reads h.version s q i k at.size) (sym here) at.reads) sound.live sound.fits;
    }

breach-halts : {s : List ℕ} {code p : ℕ} → Breach s code p → LOCAL ≤ code → (code ≡ TRAILING → ⊥) → Halts s p
breach-halts (long g) lo hi = absurd (omega (arith, lo))
breach-halts (stub g) lo hi = absurd (omega (arith, lo))
breach-halts (unmarked z f) lo hi = absurd (omega (arith, lo))
breach-halts (other_version rest z e f) lo hi = absurd (omega (arith, lo))
breach-halts (parameters v p rest z w e g) lo hi = absurd (omega (arith, lo))
breach-halts (further v p l rest z w e a g) lo hi = absurd (omega (arith, lo))
breach-halts (results v p l r rest z w e a b g) lo hi = absurd (omega (arith, lo))
breach-halts (kind v p l r b ks rest z w e few m f) lo hi = absurd (omega (arith, lo))
breach-halts (kinds_short v p l r ks z w e few m) lo hi = absurd (omega (arith, lo))
breach-halts (short f) lo hi = absurd (omega (arith, lo))
breach-halts (block_type f) lo hi = absurd (omega (arith, lo))
breach-halts (opcode f) lo hi = absurd (omega (arith, lo))
breach-halts (float f) lo hi = absurd (omega (arith, lo))
breach-halts (number f) lo hi = absurd (omega (arith, lo))
breach-halts (lane f) lo hi = absurd (omega (arith, lo))
breach-halts (align f) lo hi = absurd (omega (arith, lo))
breach-halts (local {i = i} at names never) lo hi = halts at (λ c f gs e r live fits. undeclared c live fits at.size i r names never)
breach-halts (nest {i = i} at o g) lo hi =
    halts at (λ c f gs e r live fits. too_nested c live fits at.size i r o (subst (λ (x : List Frame). nest_limit < length x) e g))
breach-halts (label {i = i} at b never) lo hi =
    halts at (λ c f gs e r live fits. no_label c live fits at.size i r b (subst (λ (x : List Frame). (g : Frame) → Target x i.index g → ⊥) e never))
breach-halts (operand {h} {i = i} {c = k} at other names labels never) lo hi =
    halts at (λ c f gs e r live fits.
    missing c live fits at.size i k r other names (subst (λ (x : List Frame). Branches k → (g : Frame) × Target x i.index g) e labels)
    (subst (λ (x : List Frame). (fs' : List Frame) → Types (locals h) i k x fs' → ⊥) e never))
breach-halts (deep {h} {fs = fs} {fs' = fs'} {i = i} {c = k} at t g) lo hi =
    halts at (λ c f gs e r live fits.
    too_deep c live fits at.size i r (subst (λ (x : List Frame). length (all_values x) ≤ stack_limit) e (reached-within at.reached).values)
    (subst (λ (x : List Frame). Types (locals h) i k x fs') e t) g)
breach-halts (result {i = i} at never) lo hi =
    halts at (λ c f gs e r live fits. other-results c live fits at.size i r (subst (λ (x : List Frame). Ends x → ⊥) e never))
breach-halts (trailing at m g) lo hi = absurd (hi refl)

-- from any sound state at the place
pub stuck-exact : {s : List ℕ} {h : Header} {code p : ℕ} → Breach s code p → LOCAL ≤ code → (code ≡ TRAILING → ⊥) → (c : Config) → c.place ≡ p
    → Sound s h c → StuckHere s h c
stuck-exact {s} {h} b lo hi c here sound =
    let w = breach-halts b lo hi in
    let same : w.header ≡ h = declares-once s w.header h (declared w.reached) (declared sound.reached) in
    subst (λ (x : Header). StuckHere s x c) same (w.stuck_at c here (subst (λ (x : Header). Sound s x c) (sym same) sound))

-- and the place is reached, in a strip that declares a header
pub breach-reached : {s : List ℕ} {code p : ℕ} → Breach s code p → LOCAL ≤ code → (code ≡ TRAILING → ⊥) → (h : Header) × (fs : List Frame) × Reaches s h p fs
breach-reached b lo hi = let w = breach-halts b lo hi in (w.header, w.frames, w.reached)

-- where the bytes are no instruction, 2 and 6 to 11, the machine is stuck too
pub refused-stuck : {s : List ℕ} {h : Header} {code place : ℕ} → bytes s → (r : Refused s code place) → (c : Config) → c.place ≡ r.at → Sound s h c
    → step s h c ≡ halted
refused-stuck {s} {h} {code} {place} b r c here sound =
    let same : r.header ≡ h = declares-once s r.header h (declared r.reached) (declared sound.reached) in
    step-halts s h c (λ e.
    stands-refuses s h.version c.place (decoded-stands s b h.version c.place e)
    (subst (λ (q : ℕ). Refuses h.version s q code place) (sym here) (subst (λ (x : Header). Refuses x.version s r.at code place) same r.refuses)))
