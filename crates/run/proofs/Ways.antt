-- What the instruction that is fetched at a place of a sound state does: it is ordinary and goes on or traps, over the whole stack as over what is
-- above the innermost label; or it is one of `end`, blocks and branches.
use Prim.Native.Nat.{ℕ, ◌+◌, ◌≤◌}
use mathlib.Core.Path.{◌≡◌, refl, ap, sym, ◌∙◌, subst}
use mathlib.Core.Bool.{true, false}
use mathlib.Core.List.{List, ◌∷◌, ◌++◌, reverse}
use native.Mathlib.Omega.{arith}
use lib.ListN.{length, length-map, length-append, length-reverse}
use Rattle.operation.specs.Op.{Load, LoadLane, Store, StoreLane, Const, Shuffle, Splat, ExtractLane, ReplaceLane, Unary, Binary, Bitselect, Test, Shift}
use Rattle.limits.specs.Limits.{stack_limit}
use Rattle.opcode.specs.Kind.{Kind}
use Rattle.opcode.specs.Table.{End, Drop, LocalGet, LocalSet, LocalTee, I32Const, I64Const, I32Add, I32Sub, I32Eqz, I32LtU, Control, Code, plain, control, vector, latest}
use Rattle.opcode.specs.Number.{group_of_code}
use Rattle.instr.specs.declared.Instr.{Instr}
use Rattle.instr.specs.declared.Decoded.{Decoded}
use Rattle.instr.specs.Decode.{decode_at}
use Rattle.machine.specs.Value.{Value, kind_of}
use Rattle.machine.specs.Exec.{State, Outcome, goes, done, trap, stuck, exec}
use Rattle.rules.specs.Header.{Header, locals}
use Rattle.rules.specs.Typing.{Frame, holding, all_values, Types, ordinary, branches, may_branch, opens_block, opens_loop, closes, Live}
use Rattle.rules.specs.Strip.{Reads, Within, Valid}
use Rattle.rules.proofs.Typings.{end-untyped, control-untyped}
use Rattle.standard.specs.Standard.{Config, going, trapped, with_stack, after, step, under_all, whole_stack}
use Rattle.standard.specs.Safety.{Sound, Fits}
use Rattle.standard.proofs.Fine.{Kept, Fine, on, past as strayed}
use Rattle.standard.proofs.Nestings.{nested-under, live-has}
use Rattle.standard.proofs.Over.{Over, over-stuck, over-trap, over-goes, over}
use Rattle.standard.proofs.Steps.{reads-decoded, step-does, does-ordinary}
use Rattle.standard.proofs.Turn.{typed-runs, goes_after}
use Rattle.standard.proofs.Unwinding.{Next, last, goes_on, what-next}
use Rattle.run.specs.Inner.Carried.{turns_at}
use Rattle.run.proofs.Marking.{count_under_lem}
use Rattle.run.proofs.Latest.{by-latest}

ordinary-group : (k : Code) → (k ≡ plain End → ⊥) → ((x : Control) → k ≡ control x → ⊥) → turns_at (group_of_code k) ≡ false
ordinary-group (plain End) e d = absurd (e refl)
ordinary-group (plain Drop) e d = refl
ordinary-group (plain LocalGet) e d = refl
ordinary-group (plain LocalSet) e d = refl
ordinary-group (plain LocalTee) e d = refl
ordinary-group (plain I32Const) e d = refl
ordinary-group (plain I64Const) e d = refl
ordinary-group (plain I32Add) e d = refl
ordinary-group (plain I32Sub) e d = refl
ordinary-group (plain I32Eqz) e d = refl
ordinary-group (plain I32LtU) e d = refl
ordinary-group (control x) e d = absurd (d x refl)
ordinary-group (vector (Load l)) e d = refl
ordinary-group (vector (LoadLane w)) e d = refl
ordinary-group (vector Store) e d = refl
ordinary-group (vector (StoreLane w)) e d = refl
ordinary-group (vector Const) e d = refl
ordinary-group (vector Shuffle) e d = refl
ordinary-group (vector (Splat w)) e d = refl
ordinary-group (vector (ExtractLane s w)) e d = refl
ordinary-group (vector (ReplaceLane w)) e d = refl
ordinary-group (vector (Unary o)) e d = refl
ordinary-group (vector (Binary o)) e d = refl
ordinary-group (vector Bitselect) e d = refl
ordinary-group (vector (Test o)) e d = refl
ordinary-group (vector (Shift o)) e d = refl

-- the same over the values under the labels
over-at : {u : List Value} {o o' : Outcome} {τ : State} → Over u o o' → o ≡ goes τ → length τ.stack + length u ≤ stack_limit → o' ≡ goes (with_stack τ (τ.stack ++ u))
over-at over-stuck e l = absurd (let z : ◌≡◌ {A = ℕ} 0 1 = cc (e) in omega arith)
over-at over-trap e l = absurd (let z : ◌≡◌ {A = ℕ} 0 1 = cc (e) in omega arith)
over-at {u} {o' = o'} {τ} (over-goes {τ = τ'} f) e l =
    let same : τ ≡ τ' = cc (e) in
    subst (λ (x : State). (length x.stack + length u ≤ stack_limit → o' ≡ goes (with_stack x (x.stack ++ u)))) (sym same) f l

over-trapped : {u : List Value} {o o' : Outcome} {a n : ℕ} → Over u o o' → o ≡ trap a n → o' ≡ trap a n
over-trapped over-stuck e = absurd (let z : ◌≡◌ {A = ℕ} 0 1 = cc (e) in omega arith)
over-trapped over-trap e = e
over-trapped (over-goes f) e = absurd (let z : ◌≡◌ {A = ℕ} 0 1 = cc (e) in omega arith)

pub data Way (s : List ℕ) (h : Header) (c : Config) (i : Instr) (n : ℕ) : Type 0 where
  turning : {k : Code} → Reads h.version s c.place i k n → turns_at (group_of_code k) ≡ true → Way s h c i n
  goes_to : {k : Code} {τ : State} → Reads h.version s c.place i k n → turns_at (group_of_code k) ≡ false
      → exec h.results k i (with_stack c.state (whole_stack c)) ≡ goes (with_stack τ (τ.stack ++ under_all c.labels))
      → step s h c ≡ going (record { place = c.place + n; state = τ; labels = c.labels }) → Way s h c i n
  traps-at : {k : Code} {a m : ℕ} → Reads h.version s c.place i k n → turns_at (group_of_code k) ≡ false → exec h.results k i (with_stack c.state (whole_stack c)) ≡ trap a m
      → step s h c ≡ trapped a m → Way s h c i n

module _ {s : List ℕ} (h : Header) (c : Config) {f : Frame} {fs : List Frame} (fits : Fits s h f fs c) where
  -- an ordinary one
  module _ {n : ℕ} {i : Instr} {k : Code} {ks : List Kind} (r : Reads h.version s c.place i k n) (e : k ≡ plain End → ⊥) (d : (x : Control) → k ≡ control x → ⊥)
      (w : Within (holding f ks ∷ fs)) where
    whole : Over (under_all c.labels) (exec h.results k i c.state) (exec h.results k i (with_stack c.state (whole_stack c)))
    whole = over (under_all c.labels) i c.state h.results k e

    steps : step s h c ≡ after c n (exec h.results k i c.state)
    steps = step-does h c r ∙ does-ordinary s h c n i k e d

    room : {τ : State} → Kept c.state (reverse ks) τ → length τ.stack + length (under_all c.labels) ≤ stack_limit
    room {τ} kept =
        omega (
          arith,
          w.values,
          length-append (all_values fs) ks,
          nested-under fits.nested,
          count_under_lem c.labels,
          length-map τ.stack kind_of,
          ap length kept.stack.kinds,
          length-reverse ks,
        )

    ordinary-way : (o : Outcome) → exec h.results k i c.state ≡ o → Fine c.state (reverse ks) o → Way s h c i n
    ordinary-way (goes τ) q (on kept) =
        goes_to r (ordinary-group k e d) (over-at whole q (room kept)) (steps ∙ ap (after c n) q ∙ goes_after c fits n w kept)
    ordinary-way (trap a m) q (strayed l) = traps-at r (ordinary-group k e d) (over-trapped whole q) (steps ∙ ap (after c n) q)
    ordinary-way (done vs) q fine = elim fine [ ]
    ordinary-way stuck q fine = elim fine [ ]

typed-way : {s : List ℕ} (h : Header) (c : Config) {f : Frame} {fs : List Frame} {n : ℕ} {i : Instr} {k : Code} {fs' : List Frame} → Fits s h f fs c → Live (f ∷ fs) → Reads h.version s c.place i k n
    → Types (locals h) i k (f ∷ fs) fs' → Within fs' → Way s h c i n
typed-way h c {fs = fs} {n = n} {i} {k} fits live r (ordinary {outs = outs} {below = below} {f = f} t x) w =
    ordinary-way h c fits r (end-untyped t) (λ y. control-untyped t) w (exec h.results k i c.state) refl
    (typed-runs c fits below r t (live-has live.0 x) (omega (arith, w.values, length-append (all_values fs) (below ++ outs))))
typed-way h c fits live r (branches l x) w = turning r refl
typed-way h c fits live r (may_branch l x) w = turning r refl
typed-way h c fits live r opens_block w = turning r refl
typed-way h c fits live r opens_loop w = turning r refl
typed-way h c fits live r (closes x) w = turning r refl

pub way : {s : List ℕ} (v : Valid s) (c : Config) → Sound s v.header c → (d : Decoded) → d ≡ decode_at latest s c.place → Way s v.header c d.instr d.len
way {s} v c sound d e = by sound.fits sound.live (what-next v sound.reached)
  where
    at : {n : ℕ} {i : Instr} {k : Code} → Reads v.header.version s c.place i k n → Way s v.header c i n → Way s v.header c d.instr d.len
    at r w = subst (λ (x : Decoded). Way s v.header c x.instr x.len) (sym (e ∙ reads-decoded (by-latest r))) w

    by : {f : Frame} {fs : List Frame} → Fits s v.header f fs c → Live (f ∷ fs) → Next s v.header c.place (f ∷ fs) → Way s v.header c d.instr d.len
    by fits live (last r x) = at r (turning r refl)
    by fits live (goes_on r t w) = at r (typed-way v.header c fits live r t w)
