-- What an instruction changes of a state that is held in slots: the stack, a local, the memory.
use Prim.Native.Nat.{ℕ, suc, ◌+◌, ◌*◌, ◌≤◌, ◌<◌}
use mathlib.Core.Path.{◌≡◌, refl, ap, sym, ◌∙◌, subst}
use mathlib.Core.Bool.{Bool, true, false}
use mathlib.Core.List.{List, ◌∷◌}
use native.Mathlib.Omega.{arith}
use lib.Dec.{eqb}
use lib.ListN.{length, get_or, set, length-set}
use lib.Seq.{get_or-set_same, get_or-set_other}
use borrow.Author.Tests.{eqb-true, eqb-false}
use Rattle.limits.specs.Limits.{slot, stack_limit, parameter_limit, local_limit}
use Rattle.operation.proofs.Laws.Number.{Bytes}
use Rattle.machine.specs.Value.{Value, I32, InRange, bytes_of}
use Rattle.machine.specs.Exec.{State, goes, go_on}
use Rattle.machine.specs.Inner.Flat.{slot_at, put_slot}
use Rattle.machine.specs.Inner.Rep.{Rep}
use Rattle.machine.proofs.Laws.Rep.{state, sixteen-bytes, length-put, slot_same, slot-other, rep-push, rep-pop}
use Rattle.machine.proofs.Laws.Pops.{HasOperands, going}
use Rattle.machine.proofs.Laws.Ranges.{range-set}

module _ {σ : State} {st : List ℕ} {d : ℕ} {ls m : List ℕ} (rep : Rep σ st d ls m) where
  pub all_held : HasOperands st σ.stack
  all_held = record { slots = rep.slots; range = rep.stack_range }

  pub with-memory : (m' : List ℕ) → Bytes m' → Rep (state σ.stack σ.locals m') st d ls m'
  with-memory m' b =
      record {
        stack_long = rep.stack_long;
        locals_long = rep.locals_long;
        depth = rep.depth;
        deep = rep.deep;
        slots = rep.slots;
        stack_range = rep.stack_range;
        few = rep.few;
        held = rep.held;
        local_range = rep.local_range;
        memory = refl;
        memory_bytes = b;
      }

  pub with-local : (n : ℕ) (v : Value) (x : List ℕ) → n < length σ.locals → InRange v → x ≡ bytes_of v → Rep (state σ.stack (set σ.locals n v) σ.memory) st d (put_slot ls n x) m
  with-local n v x h ok e =
      record {
        stack_long = rep.stack_long;
        locals_long = length-put ls n x long room ∙ rep.locals_long;
        depth = rep.depth;
        deep = rep.deep;
        slots = rep.slots;
        stack_range = rep.stack_range;
        few = subst (λ (k : ℕ). k ≤ parameter_limit + local_limit) (sym (length-set σ.locals n v)) rep.few;
        held = held';
        local_range = range-set σ.locals n v rep.local_range ok;
        memory = rep.memory;
        memory_bytes = rep.memory_bytes;
      }
    where
      long : length x ≡ slot
      long = ap length e ∙ (sixteen-bytes v ok).long

      room : slot * n + slot ≤ length ls
      room = omega (arith, rep.locals_long, rep.few)

      held' : (k : ℕ) → k < length (set σ.locals n v) → slot_at (put_slot ls n x) k ≡ bytes_of (get_or (set σ.locals n v) k (I32 0))
      held' k l = at (eqb k n) refl
        where
          at : (t : Bool) → eqb k n ≡ t → slot_at (put_slot ls n x) k ≡ bytes_of (get_or (set σ.locals n v) k (I32 0))
          at true q =
              ap (slot_at (put_slot ls n x)) (eqb-true k n q) ∙ slot_same ls n x long room ∙ e
              ∙ ap bytes_of (sym (ap (λ (j : ℕ). get_or (set σ.locals n v) j (I32 0)) (eqb-true k n q) ∙ get_or-set_same σ.locals n v (I32 0) h))
          at false q =
              slot-other ls n x long room k (eqb-false k n q) ∙ rep.held k (subst (λ (j : ℕ). k < j) (length-set σ.locals n v) l)
              ∙ ap bytes_of (sym (get_or-set_other σ.locals n k v (I32 0) (eqb-false k n q)))

  module _ {σ' : State} where
    -- a value pushed on vs
    pub pushed : (vs : List Value) → HasOperands st vs → (v : Value) (x : List ℕ) (k d' : ℕ) → InRange v → x ≡ bytes_of v → k ≡ length vs → d' ≡ suc (length vs)
        → go_on (v ∷ vs) σ.locals σ.memory ≡ goes σ' → Rep σ' (put_slot st k x) d' ls m
    pushed vs h v x k d' ok e ek ed g =
        let w = going (v ∷ vs) σ.locals σ.memory σ' g in
        subst (λ (s : State). Rep s (put_slot st k x) d' ls m) w.1 (rep-push rep vs h.slots h.range v x k d' ok e ek ed (subst (λ (j : ℕ). j ≤ stack_limit) (sym ed) w.0))

    -- only vs are left, with the locals and the memory as they were
    pub popped : (vs : List Value) → HasOperands st vs → (d' : ℕ) → d' ≡ length vs → go_on vs σ.locals σ.memory ≡ goes σ' → Rep σ' st d' ls m
    popped vs h d' ed g =
        let w = going vs σ.locals σ.memory σ' g in
        subst (λ (s : State). Rep s st d' ls m) w.1 (rep-pop rep vs h.slots h.range d' ed (subst (λ (j : ℕ). j ≤ stack_limit) (sym ed) w.0))
