-- Slots and values: what a store leaves, and a state with a value more or some fewer.
use Prim.Native.Nat.{ℕ, suc, ◌+◌, ◌*◌, ◌^◌, ◌%◌, ◌/◌, ◌≤◌, ◌<◌}
use mathlib.Core.Path.{◌≡◌, refl, ap, sym, ◌∙◌, subst}
use mathlib.Core.List.{List, [], ◌∷◌}
use mathlib.Core.Logic.{◌⊎◌, inl, inr}
use native.Mathlib.Nat.{mod-eq_of_lt, div-one, mul-zero, lt_of_lt_of_le}
use native.Mathlib.Omega.{arith}
use mathlib.Core.Bool.{Bool, true, false}
use lib.Arith.{lt_of_le-ne}
use lib.Dec.{T, ltb, leb, leb→le}
use lib.Pow.{pow_mono}
use borrow.Author.Tests.{ltb-true, ltb-false}
use lib.ListN.{length}
use mir.Syntax.{Width, w32, w64}
use mir.Val.{bits}
use Rattle.operation.specs.Vector.{number, le, lane, Sixteen}
use Rattle.operation.proofs.Laws.Number.{number-le}
use Rattle.operation.proofs.Laws.Vectors.{sixteen-le}
use Rattle.limits.specs.Limits.{slot, stack_limit}
use Rattle.machine.specs.Value.{Value, I32, I64, V128, InRange, AllInRange, bytes_of}
use Rattle.machine.specs.Exec.{State}
use Rattle.machine.specs.Inner.Flat.{slot_at, put_slot, low32, low64}
use Rattle.machine.specs.Inner.Rep.{Slots, Rep}
use Rattle.machine.proofs.Laws.Stored.{length-stored, part_same, part-other}

-- ---- one value

pub sixteen-bytes : (v : Value) → InRange v → Sixteen (bytes_of v)
sixteen-bytes (I32 n) h = sixteen-le n
sixteen-bytes (I64 n) h = sixteen-le n
sixteen-bytes (V128 v) h = h

-- the low bits of a number's bytes
low : (w : Width) (n : ℕ) → n < 2 ^ bits w → T (leb (bits w) 128) → lane w (le 16 n) 0 ≡ n
unfolding lane
low w n h t =
    ap (λ (x : ℕ). x % 2 ^ bits w)
    (ap (λ (k : ℕ). number (le 16 n) / 2 ^ k) (mul-zero (bits w)) ∙ div-one (number (le 16 n)) ∙ number-le 16 n
    ∙ mod-eq_of_lt (lt_of_lt_of_le h (pow_mono (leb→le (bits w) 128 t))))
    ∙ mod-eq_of_lt h

pub low-i32 : (n : ℕ) → n < 2 ^ 32 → low32 (le 16 n) ≡ n
low-i32 n h = low w32 n h tt

pub low-i64 : (n : ℕ) → n < 2 ^ 64 → low64 (le 16 n) ≡ n
low-i64 n h = low w64 n h tt

-- ---- slots

module _ (bs : List ℕ) (n : ℕ) (x : List ℕ) (long : length x ≡ slot) (room : slot * n + slot ≤ length bs) where
  fit : slot * n + length x ≤ length bs
  fit = omega (arith, long)

  pub length-put : length (put_slot bs n x) ≡ length bs
  length-put = length-stored bs (slot * n) x fit

  pub slot_same : slot_at (put_slot bs n x) n ≡ x
  slot_same = part_same bs (slot * n) x fit slot long

  pub slot-other : (k : ℕ) → (k ≡ n → ⊥) → slot_at (put_slot bs n x) k ≡ slot_at bs k
  slot-other k ne = part-other bs (slot * n) x fit slot (slot * k) (side k ne)
    where
      side : (k : ℕ) → (k ≡ n → ⊥) → (slot * k + slot ≤ slot * n) ⊎ (slot * n + length x ≤ slot * k)
      side k ne = at (ltb k n) refl
        where
          at : (t : Bool) → ltb k n ≡ t → (slot * k + slot ≤ slot * n) ⊎ (slot * n + length x ≤ slot * k)
          at true e = inl (omega (arith, ltb-true k n e))
          at false e = inr (omega (arith, lt_of_le-ne (ltb-false k n e) (λ q. ne (sym q)), long))

  pub slots_kept : (vs : List Value) → length vs ≤ n → Slots vs bs → Slots vs (put_slot bs n x)
  slots_kept [] h s = tt
  slots_kept (v ∷ vs) h s = (slot-other (length vs) (λ e. omega arith) ∙ s.0, slots_kept vs (omega arith) s.1)

-- ---- the state

abbrev pub state : List Value → List Value → List ℕ → State
state vs ws m = record { stack = vs; locals = ws; memory = m }

module _ {σ : State} {st : List ℕ} {d : ℕ} {ls m : List ℕ} (rep : Rep σ st d ls m) (vs : List Value) (slots : Slots vs st) (range : AllInRange vs) where
  -- a value in place of those above vs
  pub rep-push : (v : Value) (x : List ℕ) (k d' : ℕ) → InRange v → x ≡ bytes_of v → k ≡ length vs → d' ≡ suc (length vs) → d' ≤ stack_limit
      → Rep (state (v ∷ vs) σ.locals σ.memory) (put_slot st k x) d' ls m
  rep-push v x k d' ok e ek ed h =
      subst (λ (j : ℕ). Rep (state (v ∷ vs) σ.locals σ.memory) (put_slot st j x) d' ls m) (sym ek)
      (record {
        stack_long = length-put st (length vs) x long room ∙ rep.stack_long;
        locals_long = rep.locals_long;
        depth = sym ed;
        deep = h;
        slots = (slot_same st (length vs) x long room ∙ e, slots_kept st (length vs) x long room vs (omega arith) slots);
        stack_range = (ok, range);
        few = rep.few;
        held = rep.held;
        local_range = rep.local_range;
        memory = rep.memory;
        memory_bytes = rep.memory_bytes;
      })
    where
      long : length x ≡ slot
      long = ap length e ∙ (sixteen-bytes v ok).long

      room : slot * length vs + slot ≤ length st
      room = omega (arith, rep.stack_long, ed, h)

  -- only vs are left
  pub rep-pop : (d' : ℕ) → d' ≡ length vs → d' ≤ stack_limit → Rep (state vs σ.locals σ.memory) st d' ls m
  rep-pop d' ed h =
      record {
        stack_long = rep.stack_long;
        locals_long = rep.locals_long;
        depth = sym ed;
        deep = h;
        slots = slots;
        stack_range = range;
        few = rep.few;
        held = rep.held;
        local_range = rep.local_range;
        memory = rep.memory;
        memory_bytes = rep.memory_bytes;
      }
