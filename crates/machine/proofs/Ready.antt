-- A group's number tells what the instruction asks and does: what is shown of each code of the group holds of this one.
use Prim.Native.Nat.{ℕ, ◌≤◌}
use mathlib.Core.Path.{◌≡◌, ap, sym, ◌∙◌, subst}
use mathlib.Core.List.{List}
use lib.ListN.{length}
use Rattle.limits.specs.Limits.{stack_limit}
use Rattle.opcode.specs.Table.{Code, carried}
use Rattle.opcode.specs.Immediate.{moved_by}
use Rattle.opcode.specs.Number.{row_of, group_of, group_of_code}
use Rattle.opcode.specs.Entry.{entry_of, group_in, moved_in}
use Rattle.opcode.proofs.Groups.{Each, by-group}
use Rattle.opcode.proofs.Entries.{moved_in_lem, group-in}
use Rattle.instr.specs.declared.Instr.{Instr}
use Rattle.machine.specs.Inner.Flat.{flat}
use Rattle.machine.specs.Inner.Fit.{Fit, Named, Ready, Did, DidBy, bounds_of}
use Rattle.machine.specs.Answer.{in_reach}

-- the entry of the number's row: what is read from it is what the row says
module _ (id : ℕ) {e : ℕ} (entry : e ≡ entry_of (row_of id)) where
  pub group-of : {g : ℕ} → g ≡ group_in e → (c : Code) → row_of id ≡ carried c → g ≡ group_of_code c
  group-of group c row = group ∙ group-in (row_of id) entry ∙ ap group_of row

  pub moved-of : {n : ℕ} → n ≡ moved_in e → {c : Code} → row_of id ≡ carried c → n ≡ moved_by (carried c)
  moved-of moved row = moved ∙ moved_in_lem (row_of id) entry ∙ ap moved_by row

  -- of every code that the number may have
  pub each : {g : ℕ} → g ≡ group_in e → (P : Code → Type 0) {k : ℕ} → g ≡ k → Each (λ c. row_of id ≡ carried c → P c) k → (c : Code) → row_of id ≡ carried c → P c
  each group P {k} at f c row = by-group (λ c. row_of id ≡ carried c → P c) k f c (sym (group-of group c row) ∙ at) row

-- a code's part of Ready
pub record Asks (c : Code) (i : Instr) (st : List ℕ) (d : ℕ) (ls m : List ℕ) : Type 0 where
  pub fit : Fit c st d
  pub named : Named c i
  pub room : (flat c i st d ls m).depth ≤ stack_limit
  pub clear : bounds_of c i st d (length m) ≡ in_reach

module _ {id e : ℕ} {i : Instr} {st : List ℕ} {d : ℕ} {ls m : List ℕ} (pre : (e ≡ entry_of (row_of id)) × Ready id i st d ls m) {g : ℕ} (group : g ≡ group_in e) where
  asks : Asks pre.1.code i st d ls m
  asks = let r = pre.1 in record { fit = r.fit; named = r.named; room = r.room; clear = r.clear }

  pub did : {k d' : ℕ} {st' ls' m' : List ℕ} → g ≡ k → Each (λ c. row_of id ≡ carried c → Asks c i st d ls m → Did (flat c i st d ls m) d' st' ls' m') k
      → DidBy id i st d ls m d' st' ls' m'
  did {k} {d'} {st'} {ls'} {m'} at f =
      record {
        does = λ c row.
            let same : pre.1.code ≡ c = cc pre.1.row in
            each id pre.0 group (λ c. Asks c i st d ls m → Did (flat c i st d ls m) d' st' ls' m') at f c row (subst (λ c. Asks c i st d ls m) same asks);
      }
