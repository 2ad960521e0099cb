-- Where the standard's machine is not stuck, the code has what it asks before an instruction: enough values, a slot for the local, and the bounds
-- that tell a trap from going on.
use Prim.Native.Nat.{ℕ, ◌+◌, ◌-◌, ◌^◌, ◌≤◌, ◌<◌, max, zero-le}
use mathlib.Core.Path.{◌≡◌, refl, ap, ap₂, sym, ◌∙◌}
use mathlib.Core.Bool.{Bool, true, false, cond}
use mathlib.Core.List.{List}
use native.Mathlib.Omega.{arith}
use lib.Dec.{leb}
use lib.ListN.{length}
use borrow.Author.Tests.{lt-leb, leb-false}
use mir.Syntax.{Width}
use Rattle.operation.specs.Vector.{le}
use Rattle.operation.specs.Op.{Loadop, Whole, Widen, Repeat, ZeroPad, Op, Load, LoadLane, Store, StoreLane, Const, Shuffle, Splat, ExtractLane, ReplaceLane}
use Rattle.operation.specs.Op.{Unary, Binary, Bitselect, Test, Shift}
use Rattle.limits.specs.Limits.{slot}
use Rattle.opcode.specs.Kind.{Kind}
use Rattle.opcode.specs.Table.{Plain, End, Drop, LocalGet, LocalSet, LocalTee, I32Const, I64Const, I32Add, I32Sub, I32Eqz, I32LtU, Code, plain, control, vector}
use Rattle.opcode.specs.Immediate.{moved}
use Rattle.instr.specs.declared.Instr.{Instr}
use Rattle.machine.specs.Value.{Value}
use Rattle.machine.specs.Exec.{State, Outcome, goes, trap, stuck, access, pop_i32, pop_v128, exec_plain, exec_vector, exec}
use Rattle.machine.specs.Inner.Flat.{slot_at, top_of, low32, reach}
use Rattle.machine.specs.Inner.Fit.{taken_by_plain, taken_by_op, taken_by, Slotted, bounds_at, bounds_op, bounds_of}
use Rattle.machine.specs.Answer.{Reach, in_reach, out_of_reach}
use Rattle.machine.specs.Accesses.{Accesses, load, load_extend, load_splat, load_zero, load_lane, store, store_lane}
use Rattle.machine.specs.Inner.Rep.{Rep}
use Rattle.machine.proofs.Laws.Rep.{low-i32}
use Rattle.machine.proofs.Laws.Pops.{pop-i32, pop-v128, pop-any, pop-scalar, named, on-not-trap}
use Rattle.machine.proofs.Laws.Update.{all_held}
use Rattle.machine.proofs.Traps.{traps-exact}

-- ---- an access

-- p is where it goes on to
pub record Within (c : State) (at n : ℕ) (p o : Outcome) : Type 0 where
  pub clear : bounds_at at n (length c.memory) ≡ in_reach
  pub next : p ≡ o

pub data Access (c : State) (at n : ℕ) (p o : Outcome) : Type 0 where
  within : Within c at n p o → Access c at n p o
  past : length c.memory < at + n → trap at n ≡ o → Access c at n p o

accessed : (c : State) (at n : ℕ) (p o : Outcome) → access c at n p ≡ o → Access c at n p o
unfolding access
accessed c at n p o e = go (leb (at + n) (length c.memory)) refl e
  where
    go : (t : Bool) → leb (at + n) (length c.memory) ≡ t → cond t p (trap at n) ≡ o → Access c at n p o
    go true q e = within (record { clear = ap (λ (t : Bool). cond t in_reach (out_of_reach (max at (length c.memory)))) q; next = e })
    go false q e = past (leb-false (at + n) (length c.memory) q) e

-- where it goes on, it is clear
goes-clear : (c : State) (at n : ℕ) (p : Outcome) (σ : State) → Access c at n p (goes σ) → bounds_at at n (length c.memory) ≡ in_reach
goes-clear c at n p σ (within w) = w.clear
goes-clear c at n p σ (past l e) = absurd (let z : ◌≡◌ {A = ℕ} 0 1 = cc in omega arith)

pub record Beyond (b : Reach) (len a k : ℕ) : Type 0 where
  pub bounds : b ≡ out_of_reach (max a len)
  pub outside : len < a + k

-- where it traps, it is past the end
traps-past : (c : State) (at n : ℕ) (p : Outcome) (a k : ℕ) → (p ≡ trap a k → ⊥) → Access c at n p (trap a k)
    → Beyond (bounds_at at n (length c.memory)) (length c.memory) a k
traps-past c at n p a k never (within w) = absurd (never w.next)
traps-past c at n p a k never (past l e) =
    let ea : at ≡ a = cc in let en : n ≡ k = cc in
    record {
      bounds =
          ap (λ (t : Bool). cond t in_reach (out_of_reach (max at (length c.memory)))) (lt-leb (at + n) (length c.memory) l)
          ∙ ap (λ (x : ℕ). out_of_reach (max x (length c.memory))) ea;
      outside = omega arith;
    }

module _ (rs : List Kind) (i : Instr) (σ : State) (st : List ℕ) (d : ℕ) (ls m : List ℕ) (rep : Rep σ st d ls m) where
  -- ---- enough values, and a slot for the local
  module _ (o : Outcome) (moves : o ≡ stuck → ⊥) where
    pub slotted : (p : Plain) → exec_plain rs p i σ ≡ o → Slotted p i
    slotted End e = tt
    slotted Drop e = tt
    slotted LocalGet e = omega (arith, (named st o moves σ i.index _ e).declared, rep.few)
    slotted LocalSet e = omega (arith, (named st o moves σ i.index _ (pop-any st o moves σ.stack _ (all_held rep) e).next).declared, rep.few)
    slotted LocalTee e = omega (arith, (named st o moves σ i.index _ (pop-any st o moves σ.stack _ (all_held rep) e).next).declared, rep.few)
    slotted I32Const e = tt
    slotted I64Const e = tt
    slotted I32Add e = tt
    slotted I32Sub e = tt
    slotted I32Eqz e = tt
    slotted I32LtU e = tt

    enough-plain : (p : Plain) → exec_plain rs p i σ ≡ o → taken_by_plain p ≤ d
    enough-plain End e = zero-le
    enough-plain Drop e = omega (arith, (pop-any st o moves σ.stack _ (all_held rep) e).long, rep.depth)
    enough-plain LocalGet e = zero-le
    enough-plain LocalSet e = omega (arith, (pop-any st o moves σ.stack _ (all_held rep) e).long, rep.depth)
    enough-plain LocalTee e = omega (arith, (pop-any st o moves σ.stack _ (all_held rep) e).long, rep.depth)
    enough-plain I32Const e = zero-le
    enough-plain I64Const e = zero-le
    enough-plain I32Add e =
        let p = pop-i32 st o moves σ.stack _ (all_held rep) e in
        omega (arith, p.long, (pop-i32 st o moves p.rest _ p.under p.next).long, rep.depth)
    enough-plain I32Sub e =
        let p = pop-i32 st o moves σ.stack _ (all_held rep) e in
        omega (arith, p.long, (pop-i32 st o moves p.rest _ p.under p.next).long, rep.depth)
    enough-plain I32Eqz e = omega (arith, (pop-i32 st o moves σ.stack _ (all_held rep) e).long, rep.depth)
    enough-plain I32LtU e =
        let p = pop-i32 st o moves σ.stack _ (all_held rep) e in
        omega (arith, p.long, (pop-i32 st o moves p.rest _ p.under p.next).long, rep.depth)

    enough-vector : (v : Op) → exec_vector v i σ ≡ o → taken_by_op v ≤ d
    enough-vector (Load l) e = omega (arith, (pop-i32 st o moves σ.stack _ (all_held rep) e).long, rep.depth)
    enough-vector (LoadLane w) e =
        let p = pop-v128 st o moves σ.stack _ (all_held rep) e in
        omega (arith, p.long, (pop-i32 st o moves p.rest _ p.under p.next).long, rep.depth)
    enough-vector Store e =
        let p = pop-v128 st o moves σ.stack _ (all_held rep) e in
        omega (arith, p.long, (pop-i32 st o moves p.rest _ p.under p.next).long, rep.depth)
    enough-vector (StoreLane w) e =
        let p = pop-v128 st o moves σ.stack _ (all_held rep) e in
        omega (arith, p.long, (pop-i32 st o moves p.rest _ p.under p.next).long, rep.depth)
    enough-vector Const e = zero-le
    enough-vector Shuffle e =
        let p = pop-v128 st o moves σ.stack _ (all_held rep) e in
        omega (arith, p.long, (pop-v128 st o moves p.rest _ p.under p.next).long, rep.depth)
    enough-vector (Splat w) e = omega (arith, (pop-scalar st o moves w σ.stack _ (all_held rep) e).long, rep.depth)
    enough-vector (ExtractLane s w) e = omega (arith, (pop-v128 st o moves σ.stack _ (all_held rep) e).long, rep.depth)
    enough-vector (ReplaceLane w) e =
        let p = pop-scalar st o moves w σ.stack _ (all_held rep) e in
        omega (arith, p.long, (pop-v128 st o moves p.rest _ p.under p.next).long, rep.depth)
    enough-vector (Unary f) e = omega (arith, (pop-v128 st o moves σ.stack _ (all_held rep) e).long, rep.depth)
    enough-vector (Binary f) e =
        let p = pop-v128 st o moves σ.stack _ (all_held rep) e in
        omega (arith, p.long, (pop-v128 st o moves p.rest _ p.under p.next).long, rep.depth)
    enough-vector Bitselect e =
        let p = pop-v128 st o moves σ.stack _ (all_held rep) e in let q = pop-v128 st o moves p.rest _ p.under p.next in
        omega (arith, p.long, q.long, (pop-v128 st o moves q.rest _ q.under q.next).long, rep.depth)
    enough-vector (Test f) e = omega (arith, (pop-v128 st o moves σ.stack _ (all_held rep) e).long, rep.depth)
    enough-vector (Shift f) e =
        let p = pop-i32 st o moves σ.stack _ (all_held rep) e in
        omega (arith, p.long, (pop-v128 st o moves p.rest _ p.under p.next).long, rep.depth)

    pub enough : (c : Code) → exec rs c i σ ≡ o → taken_by c ≤ d
    enough (plain p) e = enough-plain p e
    enough (control k) e = zero-le
    enough (vector v) e = enough-vector v e

    -- ---- the address of an access is the one in the slot
    address : (j n a : ℕ) → d - j ≡ n → slot_at st n ≡ le slot a → a < 2 ^ 32 → reach i (top_of st d j) ≡ a + i.offset
    address j n a e f h = ap (λ (x : ℕ). x + i.offset) (ap low32 (ap (slot_at st) e ∙ f) ∙ low-i32 a h)

    pub record Reaches (v : Op) : Type 0 where
      pub at : ℕ
      pub next : Outcome
      pub access : Access σ at (moved v) next o
      pub bounds : bounds_op v i st d (length m) ≡ bounds_at at (moved v) (length σ.memory)
      pub goes_on : (a k : ℕ) → next ≡ trap a k → ⊥

    reach-load : (l : Loadop) → exec_vector (Load l) i σ ≡ o → Reaches (Load l)
    reach-load l e =
        let p = pop-i32 st o moves σ.stack _ (all_held rep) e in
        record {
          at = p.value + i.offset;
          next = _;
          access = accessed σ (p.value + i.offset) (moved (Load l)) _ o p.next;
          bounds =
              ap₂ (λ (x n : ℕ). bounds_at x (moved (Load l)) n) (address 1 (length p.rest) p.value (omega (arith, rep.depth, p.long)) p.at p.ok)
              (ap length (sym rep.memory));
          goes_on = λ a k. on-not-trap _ σ.locals σ.memory a k;
        }

    -- a vector above the address
    reach-under : (v : Op) (next : List ℕ → ℕ → List Value → Outcome) → ((x : List ℕ) (a : ℕ) (vs : List Value) (b k : ℕ) → next x a vs ≡ trap b k → ⊥)
        → bounds_op v i st d (length m) ≡ bounds_at (reach i (top_of st d 2)) (moved v) (length m)
        → pop_v128 σ.stack (λ x vs. pop_i32 vs (λ a vs. access σ (a + i.offset) (moved v) (next x a vs))) ≡ o → Reaches v
    reach-under v next never b e =
        let p = pop-v128 st o moves σ.stack _ (all_held rep) e in let q = pop-i32 st o moves p.rest _ p.under p.next in
        record {
          at = q.value + i.offset;
          next = next p.value q.value q.rest;
          access = accessed σ (q.value + i.offset) (moved v) _ o q.next;
          bounds =
              b
              ∙ ap₂ (λ (x n : ℕ). bounds_at x (moved v) n)
              (address 2 (length q.rest) q.value (omega (arith, rep.depth, p.long, q.long)) q.at q.ok) (ap length (sym rep.memory));
          goes_on = never p.value q.value q.rest;
        }

    reach-lane : (w : Width) → exec_vector (LoadLane w) i σ ≡ o → Reaches (LoadLane w)
    reach-lane w e = reach-under (LoadLane w) _ (λ x a vs b k. on-not-trap _ σ.locals σ.memory b k) refl e

    reach-store : exec_vector Store i σ ≡ o → Reaches Store
    reach-store e = reach-under Store _ (λ x a vs b k. on-not-trap vs σ.locals _ b k) refl e

    reach-store-lane : (w : Width) → exec_vector (StoreLane w) i σ ≡ o → Reaches (StoreLane w)
    reach-store-lane w e = reach-under (StoreLane w) _ (λ x a vs b k. on-not-trap vs σ.locals _ b k) refl e

  -- ---- going on is clear
  module _ (σ' : State) where
    moves-on : goes σ' ≡ stuck → ⊥
    moves-on e = let z : ◌≡◌ {A = ℕ} 0 1 = cc in omega arith

    clear-by : (v : Op) → Reaches (goes σ') moves-on v → bounds_op v i st d (length m) ≡ in_reach
    clear-by v r = r.bounds ∙ goes-clear σ r.at (moved v) r.next σ' r.access

    clear-op : (v : Op) → exec_vector v i σ ≡ goes σ' → bounds_op v i st d (length m) ≡ in_reach
    clear-op (Load l) e = clear-by (Load l) (reach-load (goes σ') moves-on l e)
    clear-op (LoadLane w) e = clear-by (LoadLane w) (reach-lane (goes σ') moves-on w e)
    clear-op Store e = clear-by Store (reach-store (goes σ') moves-on e)
    clear-op (StoreLane w) e = clear-by (StoreLane w) (reach-store-lane (goes σ') moves-on w e)
    clear-op Const e = refl
    clear-op Shuffle e = refl
    clear-op (Splat w) e = refl
    clear-op (ExtractLane s w) e = refl
    clear-op (ReplaceLane w) e = refl
    clear-op (Unary f) e = refl
    clear-op (Binary f) e = refl
    clear-op Bitselect e = refl
    clear-op (Test f) e = refl
    clear-op (Shift f) e = refl

    pub clear : (c : Code) → exec rs c i σ ≡ goes σ' → bounds_of c i st d (length m) ≡ in_reach
    clear (plain p) e = refl
    clear (control k') e = refl
    clear (vector v) e = clear-op v e

  -- ---- a trap is past the end
  module _ (a k : ℕ) where
    traps-on : trap a k ≡ stuck → ⊥
    traps-on e = let z : ◌≡◌ {A = ℕ} 0 1 = cc in omega arith

    past_by : (v : Op) → Reaches (trap a k) traps-on v → Beyond (bounds_op v i st d (length m)) (length σ.memory) a k
    past_by v r =
        let b = traps-past σ r.at (moved v) r.next a k (r.goes_on a k) r.access in
        record { bounds = r.bounds ∙ b.bounds; outside = b.outside }

    -- only an access traps
    past-access : {c : Code} {vs : List Value} {b n : ℕ} → Accesses i c vs b n → exec rs c i σ ≡ trap a k
        → Beyond (bounds_of c i st d (length m)) (length σ.memory) a k
    past-access load e = past_by (Load Whole) (reach-load (trap a k) traps-on Whole e)
    past-access (load_extend {s} {w}) e = past_by (Load (Widen s w)) (reach-load (trap a k) traps-on (Widen s w) e)
    past-access (load_splat {w}) e = past_by (Load (Repeat w)) (reach-load (trap a k) traps-on (Repeat w) e)
    past-access (load_zero {w}) e = past_by (Load (ZeroPad w)) (reach-load (trap a k) traps-on (ZeroPad w) e)
    past-access (load_lane {w}) e = past_by (LoadLane w) (reach-lane (trap a k) traps-on w e)
    past-access store e = past_by Store (reach-store (trap a k) traps-on e)
    past-access (store_lane {w}) e = past_by (StoreLane w) (reach-store-lane (trap a k) traps-on w e)

    pub past_end : (c : Code) → exec rs c i σ ≡ trap a k → Beyond (bounds_of c i st d (length m)) (length σ.memory) a k
    past_end c e = past-access ((traps-exact rs i σ c a k).0 e).0 e
