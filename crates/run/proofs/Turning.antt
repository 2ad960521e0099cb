-- One instruction of a strip that keeps the rules, as the code does it: what is asked of the machine's two functions holds, and what they do is the
-- standard's.
use Prim.Native.Nat.{ℕ, zero, suc, ◌<◌}
use mathlib.Core.Path.{◌≡◌, refl, ap, sym, ◌∙◌, subst}
use mathlib.Core.List.{List, [], ◌∷◌}
use mathlib.Core.Logic.{inl, inr}
use native.Mathlib.Omega.{arith}
use lib.ListN.{length, get_or}
use Rattle.card.specs.Card.{DONE, TRAP}
use Rattle.operation.specs.Op.{Op, Load, LoadLane, Store, StoreLane, Const, Shuffle, Splat, ExtractLane, ReplaceLane, Unary, Binary, Bitselect, Test, Shift}
use Rattle.operation.proofs.Laws.Lane.{lane_byte}
use Rattle.opcode.specs.Kind.{Kind}
use Rattle.opcode.specs.Table.{Code, plain, control, vector, carried}
use Rattle.opcode.specs.Number.{id_of, row_of}
use Rattle.opcode.proofs.Id.{row-of-id}
use Rattle.opcode.proofs.Versions.{row-latest}
use Rattle.instr.specs.declared.Instr.{Instr}
use Rattle.instr.specs.Layout.{Below, Allowed}
use Rattle.instr.proofs.Ranges.{lane-range, shuffle-range}
use Rattle.machine.specs.Exec.{State, Outcome, goes, trap, stuck, exec}
use Rattle.machine.specs.Inner.Flat.{flat}
use Rattle.machine.specs.Inner.Fit.{Fit, Fits, Indexed, Named, Ready, DidBy, bounds_of}
use Rattle.std.specs.Prelude.{Ok}
use Rattle.std.specs.declared.result.Result.{Result}
use Rattle.machine.specs.declared.access.PastEnd.{PastEnd}
use Rattle.machine.specs.Answer.{Reach, in_reach, out_of_reach, told_bounds}
use Rattle.machine.proofs.Simulates.{simulates}
use Rattle.machine.proofs.Fits.{slotted, enough, clear, past_end}
use Rattle.machine.specs.Inner.Rep.{Rep}
use Rattle.rules.specs.Strip.{Reads}
use Rattle.standard.proofs.Steps.{apt}

below_at : {n : ℕ} (xs : List ℕ) (k : ℕ) → k < length xs → Below n xs → get_or xs k 0 < n
below_at [] k l b = absurd (let z : ⊥ = omega arith in z)
below_at (x ∷ xs) zero l b = b.0
below_at (x ∷ xs) (suc k) l b = below_at xs k (omega arith) b.1

-- lane indices are as decoding leaves them
indexed : {v : ℕ} {s : List ℕ} {p n : ℕ} {i : Instr} (o : Op) → Reads v s p i (vector o) n → Indexed o i
indexed {i = i} o r = by o (subst (λ row. Allowed row i) r.does r.stands.allowed)
  where
    by : (o : Op) → Allowed (carried (vector o)) i → Indexed o i
    by (Load l) a = tt
    by (LoadLane w) a = lane-range (vector (LoadLane w)) i a (inr refl)
    by Store a = tt
    by (StoreLane w) a = lane-range (vector (StoreLane w)) i a (inr refl)
    by Const a = tt
    by Shuffle a = λ k l.
        subst (λ (x : ℕ). x < 32) (sym (lane_byte i.bytes k (apt r.stands.typed).sixteen.bytes))
        (below_at i.bytes k (omega (arith, r.stands.typed.sixteen)) (shuffle-range (vector Shuffle) i a refl))
    by (Splat w) a = tt
    by (ExtractLane s w) a = lane-range (vector (ExtractLane s w)) i a (inl refl)
    by (ReplaceLane w) a = lane-range (vector (ReplaceLane w)) i a (inl refl)
    by (Unary f) a = tt
    by (Binary f) a = tt
    by Bitselect a = tt
    by (Test f) a = tt
    by (Shift f) a = tt

module _ {v : ℕ} {s : List ℕ} {p n : ℕ} {i : Instr} {c : Code} (r : Reads v s p i c n) where
  pub row_is : row_of (id_of i.first i.number) ≡ carried c
  row_is = row-of-id i.first i.number r.stands.typed.first ∙ row-latest v i.first i.number r.does

  module _ (rs : List Kind) {σ : State} {st : List ℕ} {d : ℕ} {ls m : List ℕ} (rep : Rep σ st d ls m) where
    fit : {o : Outcome} → exec rs c i σ ≡ o → (o ≡ stuck → ⊥) → Fit c st d
    fit {o} e moves = record { stack_long = rep.stack_long; enough = enough rs i σ st d ls m rep o moves c e; deep = rep.deep }

    -- asked of `bounds`
    pub fits : {o : Outcome} → exec rs c i σ ≡ o → (o ≡ stuck → ⊥) → Fits (id_of i.first i.number) st d
    fits e moves = record { code = c; row = row_is; fit = fit e moves }

    module _ {σ' : State} (e : exec rs c i σ ≡ goes σ') where
      moves : goes σ' ≡ stuck → ⊥
      moves q = let z : ◌≡◌ {A = ℕ} 0 1 = cc in omega arith

      named : (c : Code) → exec rs c i σ ≡ goes σ' → Reads v s p i c n → Named c i
      named (plain q) e r = slotted rs i σ st d ls m rep (goes σ') moves q e
      named (control k) e r = tt
      named (vector o) e r = indexed o r

      after : Rep σ' (flat c i st d ls m).stack (flat c i st d ls m).depth (flat c i st d ls m).locals (flat c i st d ls m).memory
      after = simulates rs i (apt r.stands.typed) σ σ' st d ls m rep c e

      -- asked of `exec`
      pub ready : Ready (id_of i.first i.number) i st d ls m
      ready =
          record {
            code = c;
            row = row_is;
            fit = fit e moves;
            named = named c e r;
            room = after.deep;
            locals_long = rep.locals_long;
            clear = clear rs i σ st d ls m rep σ' c e;
          }

      pub is-clear : bounds_of c i st d (length m) ≡ in_reach
      is-clear = clear rs i σ st d ls m rep σ' c e

      -- and what it did holds the next state
      pub did : {d' : ℕ} {st' ls' m' : List ℕ} → DidBy (id_of i.first i.number) i st d ls m d' st' ls' m' → Rep σ' st' d' ls' m'
      did {d'} {st'} {ls'} {m'} by =
          let x = by.does c row_is in let f = flat c i st d ls m in
          subst (λ (z : ℕ). Rep σ' st' z ls' m') (sym x.depth)
          (subst (λ (z : List ℕ). Rep σ' z f.depth ls' m') (sym x.stack)
          (subst (λ (z : List ℕ). Rep σ' f.stack f.depth z m') (sym x.locals) (subst (λ (z : List ℕ). Rep σ' f.stack f.depth f.locals z) (sym x.memory) after)))

    pub is-past : {a k : ℕ} → exec rs c i σ ≡ trap a k → (b : Result (Unit {0}) PastEnd) → told_bounds b ≡ bounds_of c i st d (length m) → b ≡ Ok tt → ⊥
    is-past {a} {k} e b f g =
        let past : in_reach ≡ out_of_reach _ = ap told_bounds (sym g) ∙ f ∙ (past_end rs i σ st d ls m rep a k c e).bounds in
        let z : DONE ≡ TRAP = ap (λ (x : Reach). x.code) past in omega (arith, z)
