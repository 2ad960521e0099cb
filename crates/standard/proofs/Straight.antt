-- A strip of version 1 has no blocks: a run comes to every place that the strip reaches, or traps before it; and where the strip breaks 12 to 15 it
-- is stuck there.
use Prim.Native.Nat.{ℕ, suc, ◌+◌, ◌≤◌, ◌<◌}
use mathlib.Core.Path.{◌≡◌, refl, ap, sym, ◌∙◌, subst}
use mathlib.Core.Bool.{false}
use mathlib.Core.List.{List, [], ◌∷◌, ◌++◌, reverse}
use native.Mathlib.Omega.{arith}
use lib.ListN.{length, length-append}
use Rattle.card.specs.Card.{LOCAL, TRAILING}
use Rattle.opcode.specs.Table.{Control, Code, control, carried}
use Rattle.opcode.proofs.Versions.{one-straight}
use Rattle.instr.specs.declared.Instr.{Instr}
use Rattle.instr.specs.Layout.{row_in}
use Rattle.instr.proofs.Ranges.{stands-some}
use Rattle.machine.specs.Value.{Value}
use Rattle.machine.specs.Exec.{Outcome, exec}
use Rattle.rules.specs.Header.{Header, Declares, header_bytes, locals}
use Rattle.rules.specs.Typing.{Frame, opened, holding, all_values, Types, ordinary, branches, may_branch, opens_block, opens_loop}
use Rattle.rules.specs.Strip.{Reads, Within, Reaches, front, past}
use Rattle.rules.specs.Breach.{Breach}
use Rattle.rules.proofs.Headers.{declares-once}
use Rattle.rules.proofs.Typings.{end-untyped, control-untyped}
use Rattle.rules.proofs.Onward.{declared}
use Rattle.standard.specs.Standard.{Config, going, trapped, after, step, runs, begin}
use Rattle.standard.specs.Safety.{Given, Strays, Fits, Sound, StuckHere, stuck_here, not_taken, StuckAt, traps_before, stuck_there}
use Rattle.standard.proofs.Along.{one_more}
use Rattle.standard.proofs.Fine.{Fine, on, past as trapped-past}
use Rattle.standard.proofs.Steps.{step-does, does-ordinary}
use Rattle.standard.proofs.Straying.{strays-there}
use Rattle.standard.proofs.Nestings.{live-has}
use Rattle.standard.proofs.Turn.{typed-runs, kept-fits, goes_after}
use Rattle.standard.proofs.Begin.{begin-fits}
use Rattle.standard.proofs.Stuck.{stuck-exact, breach-reached}

pub data Arrives (s : List ℕ) (h : Header) (b : Config) (p : ℕ) (fs : List Frame) : Type 0 where
  strays : (k a n : ℕ) (c : Config) → runs s h k b ≡ going c → c.place < p → step s h c ≡ trapped a n → Strays s h c a n → Arrives s h b p fs
  comes : (k : ℕ) (c : Config) (f : Frame) → runs s h k b ≡ going c → c.place ≡ p → fs ≡ f ∷ [] → f.dead ≡ false → Fits s h f [] c → Arrives s h b p fs

module _ (s : List ℕ) (h : Header) (old : h.version ≡ 1) (b : Config) where
  no-control : {p n : ℕ} {i : Instr} {k : Code} {x : Control} → Reads h.version s p i k n → k ≡ control x → ⊥
  no-control {i = i} {x = x} r e = one-straight i.first i.number x (ap (λ (v : ℕ). row_in v i) (sym old) ∙ r.does ∙ ap carried e)

  module _ {p n : ℕ} {i : Instr} (j : ℕ) (c : Config) (ran : runs s h j b ≡ going c) (at : c.place ≡ p) where
    typed : {k : Code} → Reads h.version s c.place i k n → {f : Frame} {fs' : List Frame} → f.dead ≡ false → Fits s h f [] c
        → Types (locals h) i k (f ∷ []) fs' → Within fs' → Arrives s h b (p + n) fs'
    typed {k} r live fits (ordinary {outs = outs} {below = below} {f = f} t x) w =
        by (exec h.results k i c.state) refl (step-does h c r ∙ does-ordinary s h c n i k (end-untyped t) (λ y. control-untyped t))
        (typed-runs c fits below r t (live-has live x) (omega (arith, w.values, length-append (all_values []) (below ++ outs))))
      where
        by : (o : Outcome) → exec h.results k i c.state ≡ o → step s h c ≡ after c n o → Fine c.state (reverse (below ++ outs)) o
            → Arrives s h b (p + n) (holding f (below ++ outs) ∷ [])
        by o d q (on {τ} kept) =
            comes (suc j) (record { place = c.place + n; state = τ; labels = c.labels }) (holding f (below ++ outs)) (one_more s h j b c ran ∙ q ∙ goes_after c fits n w kept)
            (ap (λ (y : ℕ). y + n) at) refl live (kept-fits c fits (c.place + n) kept)
        by o d q (trapped-past {a} {n = m} g) = strays j a m c ran (omega (arith, at, stands-some r.stands)) q (strays-there h c r d)
    typed r live fits (branches l x) w = absurd (no-control r refl)
    typed r live fits (may_branch l x) w = absurd (no-control r refl)
    typed r live fits opens_block w = absurd (no-control r refl)
    typed r live fits opens_loop w = absurd (no-control r refl)

  arrives-past : {p n : ℕ} {i : Instr} {k : Code} {fs fs' : List Frame} → Reads h.version s p i k n → Types (locals h) i k fs fs' → Within fs'
      → Arrives s h b p fs
      → Arrives s h b (p + n) fs'
  arrives-past r t w (strays j a m c e before f g) = strays j a m c e (omega (arith, before)) f g
  arrives-past {p} {n} {i} {k} {fs} {fs'} r t w (comes j c f e at one live fits) =
      typed {i = i} j c e at (subst (λ (q : ℕ). Reads h.version s q i k n) (sym at) r) live fits (subst (λ (x : List Frame). Types (locals h) i k x fs') one t) w

  pub arrives : {p : ℕ} {fs : List Frame} → b.place ≡ length (header_bytes h) → Fits s h (opened false h.results) [] b → Reaches s h p fs
      → Arrives s h b p fs
  unfolding runs
  arrives at f (front d) = comes 0 b (opened false h.results) refl at refl refl f
  arrives at f (past reached r t w) = arrives-past r t w (arrives at f reached)

-- the run form, as in version 1 before
pub stuck-straight : {s : List ℕ} {h : Header} {code p : ℕ} → h.version ≡ 1 → Declares s h → Breach s code p → LOCAL ≤ code → (code ≡ TRAILING → ⊥)
    → (vs : List Value) (mem : List ℕ)
    → Given h vs mem → StuckAt s h (begin h vs mem) p
stuck-straight {s} {h} {code} {p} old d b lo hi vs mem g =
    let w = breach-reached b lo hi in
    let same : w.0 ≡ h = declares-once s w.0 h (declared w.2) d in
    by (subst (λ (x : Header). Reaches s x p w.1) same w.2)
  where
    here : {fs : List Frame} {f : Frame} (c : Config) → Reaches s h p fs → fs ≡ f ∷ [] → f.dead ≡ false → Fits s h f [] c → c.place ≡ p → Sound s h c
    here {f = f} c reached one live fits at =
        record {
          frame = f;
          outer = [];
          reached = subst (λ (q : ℕ). Reaches s h q (f ∷ [])) (sym at) (subst (λ (x : List Frame). Reaches s h p x) one reached);
          live = (live, tt);
          fits = fits;
        }

    stuck : (k : ℕ) (c : Config) → runs s h k (begin h vs mem) ≡ going c → c.place ≡ p → StuckHere s h c → StuckAt s h (begin h vs mem) p
    stuck k c e at (stuck_here q) = stuck_there k c e at q
    stuck k c e at (not_taken st r q) = absurd (no-control s h old (begin h vs mem) r refl)

    come : {fs : List Frame} → Reaches s h p fs → Arrives s h (begin h vs mem) p fs → StuckAt s h (begin h vs mem) p
    come reached (strays k a n c e before f q) = traps_before k a n c e before f q
    come reached (comes k c f e at one live fits) = stuck k c e at (stuck-exact b lo hi c at (here c reached one live fits at))

    by : {fs : List Frame} → Reaches s h p fs → StuckAt s h (begin h vs mem) p
    by reached = come reached (arrives s h old (begin h vs mem) refl (begin-fits s h vs mem g) reached)
