-- A strip of version 1 runs as before C-13: the steps of the machine of version 1 are those of the standard's machine.
use Prim.Native.Nat.{ℕ, zero, suc, ◌+◌}
use mathlib.Core.Path.{◌≡◌, refl, ap, ◌∙◌}
use mathlib.Core.Bool.{Bool, true, false, cond}
use mathlib.Core.List.{List, []}
use native.Mathlib.Nat.{add-zero}
use lib.Dec.{eqb, ltb}
use lib.ListN.{length}
use Rattle.card.specs.Card.{DONE}
use Rattle.limits.specs.Limits.{stack_limit}
use Rattle.opcode.specs.Kind.{Kind}
use Rattle.opcode.specs.Table.{Code, plain, control, vector, Row, carried, float, unassigned}
use Rattle.opcode.proofs.Versions.{one-straight}
use Rattle.instr.specs.declared.Instr.{Instr}
use Rattle.instr.specs.declared.Decoded.{Decoded}
use Rattle.instr.specs.Layout.{row_in}
use Rattle.instr.specs.Decode.{decode_at}
use Rattle.machine.specs.Value.{Value}
use Rattle.machine.specs.Exec.{State, goes, stuck, go_on, exec}
use Rattle.machine.proofs.Outcomes.{of-exec}
use Rattle.rules.specs.Header.{Header}
use Rattle.standard.specs.Standard.{going, halted, after, step_row, step, onward, runs, begin}
use Rattle.standard.specs.One.{ConfigOne, StageOne, going_one, ended_one, trapped_one, halted_one, after_one, row_one, by_one, step_one, onward_one, runs_one, begin_one, bare, bare_stage}

-- the stack is full where it was
module _ (c : ConfigOne) (n : ℕ) where
  full-alike : (st ls : List Value) (m : List ℕ) → after (bare c) n (go_on st ls m) ≡ bare_stage (after_one c n (go_on st ls m))
  unfolding go_on
  full-alike st ls m = by (ltb stack_limit (length st)) refl
    where
      next : State
      next = record { stack = st; locals = ls; memory = m }

      by : (t : Bool) → ltb stack_limit (length st) ≡ t → after (bare c) n (cond t stuck (goes next)) ≡ bare_stage (after_one c n (cond t stuck (goes next)))
      by true e = refl
      by false e =
          ap (λ (t : Bool). cond t halted (going (record { place = c.place + n; state = next; labels = [] }))) (ap (ltb stack_limit) (add-zero (length st)) ∙ e)

  same_after : (rs : List Kind) (k : Code) (i : Instr) → after (bare c) n (exec rs k i c.state) ≡ bare_stage (after_one c n (exec rs k i c.state))
  same_after rs k i = of-exec i c.state (λ o. after (bare c) n o ≡ bare_stage (after_one c n o)) refl full-alike rs k (λ is fit. refl) (λ a m at past. refl)

module _ (s : List ℕ) (h : Header) where
  same_row : (c : ConfigOne) (d : Decoded) (r : Row) → row_in 1 d.instr ≡ r → step_row s h (bare c) d r ≡ bare_stage (row_one h c d r)
  same_row c d (carried (plain p)) e = same_after c d.len h.results (plain p) d.instr
  same_row c d (carried (control k)) e = absurd (one-straight d.instr.first d.instr.number k e)
  same_row c d (carried (vector o)) e = same_after c d.len h.results (vector o) d.instr
  same_row c d float e = refl
  same_row c d unassigned e = refl

  same_by : (c : ConfigOne) (d : Decoded) → cond (eqb d.code DONE) (step_row s h (bare c) d (row_in 1 d.instr)) halted ≡ bare_stage (by_one h c d)
  same_by c d = by (eqb d.code DONE)
    where
      by : (t : Bool) → cond t (step_row s h (bare c) d (row_in 1 d.instr)) halted ≡ bare_stage (cond t (row_one h c d (row_in 1 d.instr)) halted_one)
      by true = same_row c d (row_in 1 d.instr) refl
      by false = refl

  module _ (old : h.version ≡ 1) where
    -- VERSION 1 AS BEFORE: one step, and any number of them
    pub one-step : (c : ConfigOne) → step s h (bare c) ≡ bare_stage (step_one s h c)
    unfolding step step_one
    one-step c =
        ap (λ (v : ℕ). let d : Decoded = decode_at v s c.place in cond (eqb d.code DONE) (step_row s h (bare c) d (row_in v d.instr)) halted) old
        ∙ same_by c (decode_at 1 s c.place)

    same-onward : (g : StageOne) → onward s h (bare_stage g) ≡ bare_stage (onward_one s h g)
    same-onward (going_one c) = one-step c
    same-onward (ended_one vs m) = refl
    same-onward (trapped_one a n) = refl
    same-onward halted_one = refl

    pub one-runs : (k : ℕ) (c : ConfigOne) → runs s h k (bare c) ≡ bare_stage (runs_one s h k c)
    unfolding runs runs_one
    one-runs zero c = refl
    one-runs (suc k) c = ap (onward s h) (one-runs k c) ∙ same-onward (runs_one s h k c)

    -- from the beginning, which is the same too
    pub one-begins : (vs : List Value) (m : List ℕ) (k : ℕ) → runs s h k (begin h vs m) ≡ bare_stage (runs_one s h k (begin_one h vs m))
    one-begins vs m k = one-runs k (begin_one h vs m)
