-- 14: where the rules count more values than the stack holds, the standard's machine is stuck. Only what takes nothing and leaves one comes to that.
use Prim.Native.Nat.{ℕ, ◌+◌, ◌≤◌, ◌<◌}
use mathlib.Core.Path.{◌≡◌, refl, ap, sym, ◌∙◌, subst}
use mathlib.Core.Bool.{Bool, true, false, cond}
use mathlib.Core.List.{List, ◌∷◌}
use mathlib.Core.Option.{Option, none, some}
use native.Mathlib.Omega.{arith}
use lib.ListN.{length, get_or}
use lib.Dec.{ltb}
use borrow.Author.Tests.{lt-ltb, ltb-true}
use Rattle.operation.specs.Op.{Op, Load, LoadLane, Store, StoreLane, Const, Shuffle, Splat, ExtractLane, ReplaceLane, Unary, Binary, Bitselect, Test, Shift}
use Rattle.limits.specs.Limits.{stack_limit}
use Rattle.opcode.specs.Kind.{Kind}
use Rattle.opcode.specs.Table.{End, Drop, LocalGet, LocalSet, LocalTee, I32Const, I64Const, I32Add, I32Sub, I32Eqz, I32LtU, Code, plain, control, vector}
use Rattle.opcode.specs.Effect.{Signature, ◌⇒◌, signature, effect}
use Rattle.instr.specs.declared.Instr.{Instr}
use Rattle.machine.specs.Value.{Value, I32, I64, V128}
use Rattle.machine.specs.Exec.{State, Outcome, goes, stuck, push, go_on, local, exec_vector, exec}
use Rattle.rules.specs.Typing.{Typed, by_signature, dropped, got, set, teed}
use Rattle.standard.specs.Standard.{Config, going, halted, count_under, after}

-- the limit that `exec` asks of the operands above the label asks no more than that of all operands
pub full-once : (c : Config) (n : ℕ) (st ls : List Value) (m : List ℕ) → after c n (go_on st ls m) ≡ after c n (goes (record { stack = st; locals = ls; memory = m }))
unfolding go_on
full-once c n st ls m = by (ltb stack_limit (length st)) refl
  where
    next : State
    next = record { stack = st; locals = ls; memory = m }

    by : (t : Bool) → ltb stack_limit (length st) ≡ t → after c n (cond t stuck (goes next)) ≡ after c n (goes next)
    by true e =
        let more = lt-ltb stack_limit (length st + count_under c.labels) (omega (arith, ltb-true stack_limit (length st) e)) in
        sym (ap (λ (t : Bool). cond t halted (going (record { place = c.place + n; state = next; labels = c.labels }))) more)
    by false e = refl

module _ (rs : List Kind) (i : Instr) (c : Config) (n : ℕ) (few : length c.state.stack + count_under c.labels ≤ stack_limit) where
  abbrev Deep : List Kind → List Kind → Outcome → Type 0
  Deep ins outs o = stack_limit + length ins < length c.state.stack + count_under c.labels + length outs → after c n o ≡ halted

  -- one more than the stack holds
  over : (v : Value) → stack_limit < length c.state.stack + count_under c.labels + 1 → after c n (push c.state c.state.stack v) ≡ halted
  over v l = full-once c n (v ∷ c.state.stack) c.state.locals c.state.memory ∙ rw (lt-ltb stack_limit (length (v ∷ c.state.stack) + count_under c.labels) (omega (arith, l)))

  over-local : stack_limit < length c.state.stack + count_under c.labels + 1 → after c n (local c.state i.index (λ v. push c.state c.state.stack v)) ≡ halted
  unfolding local
  over-local l = by (ltb i.index (length c.state.locals))
    where
      by : (t : Bool) → after c n (cond t (push c.state c.state.stack (get_or c.state.locals i.index (I32 0))) stuck) ≡ halted
      by true = over (get_or c.state.locals i.index (I32 0)) l
      by false = refl

  abbrev DeepBy : Option Signature → Outcome → Type 0
  DeepBy none o = Unit {0}
  DeepBy (some (ins ⇒ outs)) o = Deep ins outs o

  deep-vector : (o : Op) → DeepBy (some (signature o)) (exec_vector o i c.state)
  deep-vector (Load l) = λ g. absurd (omega (arith, few, g))
  deep-vector (LoadLane w) = λ g. absurd (omega (arith, few, g))
  deep-vector Store = λ g. absurd (omega (arith, few, g))
  deep-vector (StoreLane w) = λ g. absurd (omega (arith, few, g))
  deep-vector Const = over (V128 i.bytes)
  deep-vector Shuffle = λ g. absurd (omega (arith, few, g))
  deep-vector (Splat w) = λ g. absurd (omega (arith, few, g))
  deep-vector (ExtractLane s w) = λ g. absurd (omega (arith, few, g))
  deep-vector (ReplaceLane w) = λ g. absurd (omega (arith, few, g))
  deep-vector (Unary o) = λ g. absurd (omega (arith, few, g))
  deep-vector (Binary o) = λ g. absurd (omega (arith, few, g))
  deep-vector Bitselect = λ g. absurd (omega (arith, few, g))
  deep-vector (Test o) = λ g. absurd (omega (arith, few, g))
  deep-vector (Shift o) = λ g. absurd (omega (arith, few, g))

  deep-signed : (k : Code) → DeepBy (effect k) (exec rs k i c.state)
  deep-signed (plain End) = tt
  deep-signed (plain Drop) = tt
  deep-signed (plain LocalGet) = tt
  deep-signed (plain LocalSet) = tt
  deep-signed (plain LocalTee) = tt
  deep-signed (plain I32Const) = over (I32 i.word)
  deep-signed (plain I64Const) = over (I64 i.long)
  deep-signed (plain I32Add) = λ g. absurd (omega (arith, few, g))
  deep-signed (plain I32Sub) = λ g. absurd (omega (arith, few, g))
  deep-signed (plain I32Eqz) = λ g. absurd (omega (arith, few, g))
  deep-signed (plain I32LtU) = λ g. absurd (omega (arith, few, g))
  deep-signed (control k) = tt
  deep-signed (vector o) = deep-vector o

  pub deep : {ls : List Kind} {k : Code} {ins outs : List Kind} → Typed ls i.index k ins outs → Deep ins outs (exec rs k i c.state)
  deep {k = k} (by_signature p) = subst (λ (s : Option Signature). DeepBy s (exec rs k i c.state)) p (deep-signed k)
  deep dropped = λ g. absurd (omega (arith, few, g))
  deep (got l) = λ g. over-local g
  deep (set l) = λ g. absurd (omega (arith, few, g))
  deep (teed l) = λ g. absurd (omega (arith, few, g))
