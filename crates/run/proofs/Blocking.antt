-- `end`, blocks and branches over a flat stack: each leads where the standard's machine goes.
use Prim.Native.Nat.{ℕ, ◌+◌, ◌*◌, ◌-◌, ◌≤◌, ◌<◌}
use mathlib.Core.Path.{◌≡◌, refl, ap, sym, ◌∙◌, subst}
use mathlib.Core.Bool.{Bool, true, false, cond, not}
use mathlib.Core.List.{List, [], ◌∷◌, ◌++◌, reverse, append_assoc}
use mathlib.Core.Logic.{◌⊎◌, inl, inr}
use native.Mathlib.Omega.{arith}
use lib.Dec.{eqb, ltb}
use lib.ListN.{length, get_or, set, length-append, length-reverse, length-set}
use borrow.Author.Tests.{ltb-true, eq-eqb, ne_eqb}
use Rattle.operation.specs.Op.{Load, LoadLane, Store, StoreLane, Const, Shuffle, Splat, ExtractLane, ReplaceLane, Unary, Binary, Bitselect, Test, Shift}
use Rattle.limits.specs.Limits.{slot, file_limit, nest_limit}
use Rattle.opcode.specs.Kind.{kind_byte, i32, i64, v128}
use Rattle.opcode.specs.BlockType.{block_results}
use Rattle.opcode.specs.Table.{End, Drop, LocalGet, LocalSet, LocalTee, I32Const, I64Const, I32Add, I32Sub, I32Eqz, I32LtU, Block, Loop, Br, BrIf, Code, plain, control, vector}
use Rattle.opcode.specs.Number.{group_of_code}
use Rattle.opcode.proofs.Groups.{by-group}
use Rattle.instr.specs.declared.Instr.{Instr}
use Rattle.instr.proofs.Ranges.{stands-inside}
use Rattle.machine.specs.Value.{Value, I32, I64, V128}
use Rattle.machine.specs.Memory.{part}
use Rattle.machine.specs.Exec.{State, done, stuck, of_kinds}
use Rattle.machine.specs.Inner.Flat.{HasOperands, slot_at, top_of, low32}
use Rattle.machine.specs.Inner.Rep.{Rep, Slots}
use Rattle.machine.proofs.Laws.Rep.{low-i32}
use Rattle.rules.specs.Header.{Header}
use Rattle.rules.specs.Strip.{Reads, Valid}
use Rattle.rules.proofs.Onward.{declared}
use Rattle.standard.specs.Standard.{Label, Config, Stage, going, ended, with_stack, count_under, after, enter, branch, branch_if, step_plain, step_code, step, under_all}
use Rattle.standard.specs.Safety.{Safe}
use Rattle.standard.proofs.Steps.{step-does}
use Rattle.standard.proofs.Turn.{safe-step}
use Rattle.standard.proofs.Never.{safe-unhalted}
use Rattle.checker.specs.Survey.{LOOP}
use Rattle.run.specs.Inner.Carried.{way_of, Marked, Carries, Seen, turns_at, Leads, Led, leads_on, leads_out, Branching, Branched}
use Rattle.run.proofs.HeaderBytes.{version-read}
use Rattle.run.proofs.Marking.{count_under_lem, rep-under, rep-same, part_bytes, marked_more, unhalted, unhalted-if}
use Rattle.run.proofs.Leading.{sound-of, ended-many}

-- of those that are no ordinary instructions, the ones that are left
branching : (k : Code) → turns_at (group_of_code k) ≡ true → (group_of_code k ≡ 0 → ⊥) → (group_of_code k ≡ 25 → ⊥) → (group_of_code k ≡ 26 → ⊥)
    → (k ≡ control Br) ⊎ (k ≡ control BrIf)
branching (control Br) t a b c = inl refl
branching (control BrIf) t a b c = inr refl
branching (control Block) t a b c = absurd (b refl)
branching (control Loop) t a b c = absurd (c refl)
branching (plain End) t a b c = absurd (a refl)
branching (plain Drop) t a b c = absurd (let z : ◌≡◌ {A = ℕ} 0 1 = cc (t) in omega arith)
branching (plain LocalGet) t a b c = absurd (let z : ◌≡◌ {A = ℕ} 0 1 = cc (t) in omega arith)
branching (plain LocalSet) t a b c = absurd (let z : ◌≡◌ {A = ℕ} 0 1 = cc (t) in omega arith)
branching (plain LocalTee) t a b c = absurd (let z : ◌≡◌ {A = ℕ} 0 1 = cc (t) in omega arith)
branching (plain I32Const) t a b c = absurd (let z : ◌≡◌ {A = ℕ} 0 1 = cc (t) in omega arith)
branching (plain I64Const) t a b c = absurd (let z : ◌≡◌ {A = ℕ} 0 1 = cc (t) in omega arith)
branching (plain I32Add) t a b c = absurd (let z : ◌≡◌ {A = ℕ} 0 1 = cc (t) in omega arith)
branching (plain I32Sub) t a b c = absurd (let z : ◌≡◌ {A = ℕ} 0 1 = cc (t) in omega arith)
branching (plain I32Eqz) t a b c = absurd (let z : ◌≡◌ {A = ℕ} 0 1 = cc (t) in omega arith)
branching (plain I32LtU) t a b c = absurd (let z : ◌≡◌ {A = ℕ} 0 1 = cc (t) in omega arith)
branching (vector (Load l)) t a b c = absurd (let z : ◌≡◌ {A = ℕ} 0 1 = cc (t) in omega arith)
branching (vector (LoadLane w)) t a b c = absurd (let z : ◌≡◌ {A = ℕ} 0 1 = cc (t) in omega arith)
branching (vector Store) t a b c = absurd (let z : ◌≡◌ {A = ℕ} 0 1 = cc (t) in omega arith)
branching (vector (StoreLane w)) t a b c = absurd (let z : ◌≡◌ {A = ℕ} 0 1 = cc (t) in omega arith)
branching (vector Const) t a b c = absurd (let z : ◌≡◌ {A = ℕ} 0 1 = cc (t) in omega arith)
branching (vector Shuffle) t a b c = absurd (let z : ◌≡◌ {A = ℕ} 0 1 = cc (t) in omega arith)
branching (vector (Splat w)) t a b c = absurd (let z : ◌≡◌ {A = ℕ} 0 1 = cc (t) in omega arith)
branching (vector (ExtractLane s w)) t a b c = absurd (let z : ◌≡◌ {A = ℕ} 0 1 = cc (t) in omega arith)
branching (vector (ReplaceLane w)) t a b c = absurd (let z : ◌≡◌ {A = ℕ} 0 1 = cc (t) in omega arith)
branching (vector (Unary o)) t a b c = absurd (let z : ◌≡◌ {A = ℕ} 0 1 = cc (t) in omega arith)
branching (vector (Binary o)) t a b c = absurd (let z : ◌≡◌ {A = ℕ} 0 1 = cc (t) in omega arith)
branching (vector Bitselect) t a b c = absurd (let z : ◌≡◌ {A = ℕ} 0 1 = cc (t) in omega arith)
branching (vector (Test o)) t a b c = absurd (let z : ◌≡◌ {A = ℕ} 0 1 = cc (t) in omega arith)
branching (vector (Shift o)) t a b c = absurd (let z : ◌≡◌ {A = ℕ} 0 1 = cc (t) in omega arith)

pub block-few : (b : ℕ) → length (block_results b) ≤ 1
block-few b = by (eqb b 0x40) (eqb b (kind_byte i32)) (eqb b (kind_byte i64)) (eqb b (kind_byte v128))
  where
    by : (r t u w : Bool) → length (cond r [] (cond t (i32 ∷ []) (cond u (i64 ∷ []) (cond w (v128 ∷ []) [])))) ≤ 1
    by true t u w = omega arith
    by false true u w = omega arith
    by false false true w = omega arith
    by false false false true = omega arith
    by false false false false = omega arith

-- the strip's `end`, not stuck
ended_by : {s : List ℕ} {h : Header} {b : Config} (c : Config) (n : ℕ) (t : Bool) (vs : List Value) → Safe s h b (after c n (cond t (done vs) stuck))
    → after c n (cond t (done vs) stuck) ≡ ended vs c.state.memory
ended_by c n true vs safe = refl
ended_by c n false vs safe = absurd (safe-unhalted safe refl)

module _ {s : List ℕ} (v : Valid s) {c : Config} {at depth nest : ℕ} {stack marks locals mem : List ℕ} (C : Carries s v.header c at depth nest stack marks locals mem)
    {group index block len : ℕ} (S : Seen s at group index block len) where
  abbrev h : Header
  h = v.header

  abbrev σ : State
  σ = c.state

  abbrev i : Instr
  i = S.instr

  pub next-inside : at + len ≤ file_limit
  next-inside = omega (arith, stands-inside S.reads.stands, (declared v.reached).sized)

  reads : Reads h.version s c.place i S.code len
  reads =
      subst (λ (n : ℕ). Reads n s c.place i S.code len) (version-read (declared v.reached))
      (subst (λ (p : ℕ). Reads (get_or s 3 0) s p i S.code len) (sym C.place) S.reads)

  stepped : (k : Code) → S.code ≡ k → step s h c ≡ step_code s h c len i k
  stepped k e = step-does h c reads ∙ ap (step_code s h c len i) e

  safe : {g : Stage} → step s h c ≡ g → Safe s h c g
  safe e = subst (Safe s h c) e (safe-step v c C.sound)

  onward-place : c.place + len ≡ at + len
  onward-place = ap (λ (p : ℕ). p + len) C.place

  whole-many : depth ≡ length σ.stack + count_under c.labels
  whole-many = omega (arith, C.rep.depth, length-append σ.stack (under_all c.labels), count_under_lem c.labels)

  -- ---- `end`

  module _ (e : group ≡ 0) where
    is-end : S.code ≡ plain End
    is-end = by-group (λ (k : Code). k ≡ plain End) 0 refl S.code (sym S.group_is ∙ e)

    ends-step : (ls : List Label) → c.labels ≡ ls → step s h c ≡ step_plain h c len i End ls
    ends-step ls f = stepped (plain End) is-end ∙ ap (step_plain h c len i End) f

    pub ends-strip : nest ≡ 0 → (n : ℕ) → Led s h (step s h c) 0 0 n stack marks locals mem
    ends-strip z n = by c.labels refl
      where
        by : (ls : List Label) → c.labels ≡ ls → Led s h (step s h c) 0 0 n stack marks locals mem
        by (l ∷ ls) f = absurd (let w : ⊥ = omega (arith, C.many, ap length f, z) in w)
        by [] f =
            let there : step s h c ≡ ended (reverse σ.stack) σ.memory =
            ends-step [] f ∙ ended_by {s = s} {h = h} {b = c} c len (of_kinds σ.stack (reverse h.results)) (reverse σ.stack) (safe (ends-step [] f)) in
            leads_out (there ∙ ap (ended (reverse σ.stack)) C.rep.memory) refl (ended-many (safe there))
            (omega (arith, whole-many, length-reverse σ.stack, C.rep.deep)) C.rep.stack_long
            (ap (λ (k : ℕ). part (slot * k) (slot * 0) stack) (length-reverse σ.stack)
            ∙ part_bytes σ.stack [] stack (subst (λ (ls : List Label). Slots (σ.stack ++ under_all ls) stack) f C.rep.slots))

    pub ends-block : (nest ≡ 0 → ⊥) → Led s h (step s h c) (at + len) depth (nest - 1) stack marks locals mem
    ends-block ne = by c.labels refl
      where
        by : (ls : List Label) → c.labels ≡ ls → Led s h (step s h c) (at + len) depth (nest - 1) stack marks locals mem
        by [] f = absurd (ne (sym C.many ∙ ap length f))
        by (l ∷ ls) f =
            let next : Config = record { place = c.place + len; state = with_stack σ (σ.stack ++ l.under); labels = ls } in
            let there : step s h c ≡ going next =
            ends-step (l ∷ ls) f ∙ unhalted {s = s} {h = h} {b = c} (of_kinds σ.stack (reverse l.results)) (safe (ends-step (l ∷ ls) f)) in
            leads_on there
            (record {
              place = onward-place;
              sound = sound-of (safe there);
              rep = rep-same σ (ap (λ (x : List Label). σ.stack ++ under_all x) f ∙ sym (append_assoc σ.stack l.under (under_all ls))) C.rep;
              many = omega (arith, C.many, ap length f);
              marked = (subst (λ (x : List Label). Marked x marks) f C.marked).4;
              marks_long = C.marks_long;
            })

  -- ---- block and loop

  module _ (b : Bool) (e : step s h c ≡ enter b i len c) where
    abbrev label : Label
    label = record { loop = b; results = block_results i.block; under = σ.stack; body = c.place + len }

    abbrev entered : Config
    entered = record { place = c.place + len; state = with_stack σ []; labels = label ∷ c.labels }

    few : nest < nest_limit
    few =
        let room = unhalted-if {s = s} {h = h} {b = c} (ltb (length c.labels) nest_limit) (going entered) (safe e) in
        omega (arith, C.many, ltb-true (length c.labels) nest_limit room)

    enters : {way : ℕ} {marks' : List ℕ} → way ≡ way_of label → marks' ≡ set (set (set marks (3 * nest) depth) (3 * nest + 1) way) (3 * nest + 2) (at + len)
        → Led s h (step s h c) (at + len) depth (nest + 1) stack marks' locals mem
    enters {way} {marks'} w m =
        let there : step s h c ≡ going entered = e ∙ unhalted {s = s} {h = h} {b = c} (ltb (length c.labels) nest_limit) (safe e) in
        leads_on there
        (record {
          place = onward-place;
          sound = sound-of (safe there);
          rep = C.rep;
          many = omega (arith, C.many);
          marked =
              subst (Marked (label ∷ c.labels)) (sym m)
              (marked_more label c.labels marks nest depth way (at + len) (sym C.many) few C.marks_long whole-many w (sym onward-place) (block-few i.block) C.marked);
          marks_long =
              ap length m ∙ length-set (set (set marks (3 * nest) depth) (3 * nest + 1) way) (3 * nest + 2) (at + len) ∙ length-set (set marks (3 * nest) depth) (3 * nest + 1) way
              ∙ length-set marks (3 * nest) depth ∙ C.marks_long;
        })

  module _ (e : group ≡ 25) where
    block-step : step s h c ≡ enter false i len c
    block-step = stepped (control Block) (by-group (λ (k : Code). k ≡ control Block) 25 refl S.code (sym S.group_is ∙ e))

    pub room-for-block : (nest < nest_limit) × (length marks ≡ 3 * nest_limit + 1)
    room-for-block = (few false block-step, C.marks_long)

    pub block-begins : {way : ℕ} {marks' : List ℕ} → way ≡ length (block_results block)
        → marks' ≡ set (set (set marks (3 * nest) depth) (3 * nest + 1) way) (3 * nest + 2) (at + len)
        → Led s h (step s h c) (at + len) depth (nest + 1) stack marks' locals mem
    block-begins w m = enters false block-step (w ∙ ap (λ (x : ℕ). length (block_results x)) S.block_is) m

  module _ (e : group ≡ 26) where
    loop-step : step s h c ≡ enter true i len c
    loop-step = stepped (control Loop) (by-group (λ (k : Code). k ≡ control Loop) 26 refl S.code (sym S.group_is ∙ e))

    pub room-for-loop : (nest < nest_limit) × (length marks ≡ 3 * nest_limit + 1)
    room-for-loop = (few true loop-step, C.marks_long)

    pub loop-begins : {marks' : List ℕ} → marks' ≡ set (set (set marks (3 * nest) depth) (3 * nest + 1) LOOP) (3 * nest + 2) (at + len)
        → Led s h (step s h c) (at + len) depth (nest + 1) stack marks' locals mem
    loop-begins m = enters true loop-step refl m

  -- ---- branches

  module _ (not_end : group ≡ 0 → ⊥) (not-block : group ≡ 25 → ⊥) (not-loop : group ≡ 26 → ⊥) where
    which : (S.code ≡ control Br) ⊎ (S.code ≡ control BrIf)
    which =
        branching S.code (ap turns_at (sym S.group_is) ∙ S.turning) (λ e. not_end (S.group_is ∙ e)) (λ e. not-block (S.group_is ∙ e)) (λ e. not-loop (S.group_is ∙ e))

    -- a branch that is taken
    pub record Taken : Type 0 where
      pub state : State
      pub step_is : step s h c ≡ branch s h state index c.labels
      pub leads : Leads s h state c.labels index (depth - (group - 27)) nest stack marks locals mem

    takes : (τ : State) → step s h c ≡ branch s h τ i.index c.labels → {d : ℕ} → Rep (with_stack τ (τ.stack ++ under_all c.labels)) stack d locals mem
        → d ≡ depth - (group - 27) → Taken
    takes τ e rep f =
        let there : step s h c ≡ branch s h τ index c.labels = e ∙ ap (λ (n : ℕ). branch s h τ n c.labels) (sym S.index_is) in
        record {
          state = τ;
          step_is = there;
          leads =
              record {
                rep = subst (λ (n : ℕ). Rep (with_stack τ (τ.stack ++ under_all c.labels)) stack n locals mem) f rep;
                many = C.many;
                marked = C.marked;
                marks_long = C.marks_long;
                frames = C.sound.frame ∷ C.sound.outer;
                nested = C.sound.fits.nested;
                from = c;
                safe = safe there;
              };
        }

    br-group : S.code ≡ control Br → group ≡ 27
    br-group e = S.group_is ∙ ap group_of_code e

    if-group : S.code ≡ control BrIf → group ≡ 28
    if-group e = S.group_is ∙ ap group_of_code e

    -- the number that br_if pops
    record If : Type 0 where
      number : ℕ
      under : List Value
      stack_is : σ.stack ≡ I32 number ∷ under

    asks : S.code ≡ control BrIf → If
    asks e = by σ.stack refl (safe (stepped (control BrIf) e))
      where
        by : (vs : List Value) → σ.stack ≡ vs → Safe s h c (branch_if s h c len i.index σ.stack) → If
        by [] f w = absurd (safe-unhalted (subst (λ (x : List Value). Safe s h c (branch_if s h c len i.index x)) f w) refl)
        by (I32 a ∷ st) f w = record { number = a; under = st; stack_is = f }
        by (I64 a ∷ st) f w = absurd (safe-unhalted (subst (λ (x : List Value). Safe s h c (branch_if s h c len i.index x)) f w) refl)
        by (V128 a ∷ st) f w = absurd (safe-unhalted (subst (λ (x : List Value). Safe s h c (branch_if s h c len i.index x)) f w) refl)

    module _ (e : S.code ≡ control BrIf) where
      q : If
      q = asks e

      above : Rep (with_stack σ (I32 q.number ∷ (q.under ++ under_all c.labels))) stack depth locals mem
      above = rep-same σ (ap (λ (vs : List Value). vs ++ under_all c.labels) q.stack_is) C.rep

      number_is : low32 (top_of stack depth 1) ≡ q.number
      number_is =
          let here : depth - 1 ≡ length (q.under ++ under_all c.labels) = omega (arith, above.depth) in
          ap low32 (ap (slot_at stack) here ∙ above.slots.0) ∙ low-i32 q.number above.stack_range.0

      below : {d : ℕ} → d ≡ depth - 1 → Rep (with_stack σ (q.under ++ under_all c.labels)) stack d locals mem
      below f = rep-under σ (I32 q.number ∷ []) (q.under ++ under_all c.labels) above (f ∙ omega (arith, above.depth))

      abbrev after-if : Config
      after-if = record { place = c.place + len; state = with_stack σ q.under; labels = c.labels }

      if-step : step s h c ≡ cond (eqb q.number 0) (going after-if) (branch s h (with_stack σ q.under) i.index c.labels)
      if-step = stepped (control BrIf) e ∙ ap (branch_if s h c len i.index) q.stack_is

    -- br_if has something to ask
    pub pops : (27 ≤ group) × (group - 27 ≤ depth)
    pops = by which
      where
        by : (S.code ≡ control Br) ⊎ (S.code ≡ control BrIf) → (27 ≤ group) × (group - 27 ≤ depth)
        by (inl e) = (omega (arith, br-group e), omega (arith, br-group e))
        by (inr e) = (omega (arith, if-group e), omega (arith, if-group e, (above e).depth))

    pub asks-top : (((group ≡ 27 → ⊥) → 1 ≤ depth)) × HasOperands 0 stack depth
    asks-top = (by which, (omega arith, C.rep.deep, C.rep.stack_long))
      where
        by : (S.code ≡ control Br) ⊎ (S.code ≡ control BrIf) → (group ≡ 27 → ⊥) → 1 ≤ depth
        by (inl e) ne = absurd (ne (br-group e))
        by (inr e) ne = omega (arith, (above e).depth)

    module _ {t : Bool} (test : t ≡ cond (eqb group 27) true (not (eqb (low32 (top_of stack depth 1)) 0))) where
      if-test : (e : S.code ≡ control BrIf) → t ≡ not (eqb (q e).number 0)
      if-test e =
          test ∙ ap (λ (x : Bool). cond x true (not (eqb (low32 (top_of stack depth 1)) 0))) (ne_eqb group 27 (λ f. omega (arith, if-group e, f)))
          ∙ ap (λ (n : ℕ). not (eqb n 0)) (number_is e)

      not_yes : (x : Bool) → true ≡ not x → x ≡ false
      not_yes true f = absurd (let z : ◌≡◌ {A = ℕ} 0 1 = cc (f) in omega arith)
      not_yes false f = refl

      not-no : (x : Bool) → false ≡ not x → x ≡ true
      not-no true f = refl
      not-no false f = absurd (let z : ◌≡◌ {A = ℕ} 0 1 = cc (f) in omega arith)

      pub is-taken : t ≡ true → Taken
      is-taken tr = by which
        where
          by : (S.code ≡ control Br) ⊎ (S.code ≡ control BrIf) → Taken
          by (inl e) = takes σ (stepped (control Br) e) C.rep (omega (arith, br-group e))
          by (inr e) =
              let unequal : eqb (q e).number 0 ≡ false = not_yes (eqb (q e).number 0) (sym tr ∙ if-test e) in
              takes (with_stack σ (q e).under)
              (if-step e ∙ ap (λ (x : Bool). cond x (going (after-if e)) (branch s h (with_stack σ (q e).under) i.index c.labels)) unequal)
              (below e {d = depth - 1} refl) (omega (arith, if-group e))

      pub not_taken : t ≡ false → Led s h (step s h c) (at + len) (depth - (group - 27)) nest stack marks locals mem
      not_taken fa = by which
        where
          by : (S.code ≡ control Br) ⊎ (S.code ≡ control BrIf) → Led s h (step s h c) (at + len) (depth - (group - 27)) nest stack marks locals mem
          by (inl e) =
              let z : false ≡ true =
              sym fa ∙ test ∙ ap (λ (x : Bool). cond x true (not (eqb (low32 (top_of stack depth 1)) 0))) (eq-eqb group 27 (br-group e)) in
              absurd (let w : ◌≡◌ {A = ℕ} 0 1 = cc (z) in omega arith)
          by (inr e) =
              let equal : eqb (q e).number 0 ≡ true = not-no (eqb (q e).number 0) (sym fa ∙ if-test e) in
              let next : Config = record { place = c.place + len; state = with_stack σ (q e).under; labels = c.labels } in
              let there : step s h c ≡ going next =
              if-step e ∙ ap (λ (x : Bool). cond x (going next) (branch s h (with_stack σ (q e).under) i.index c.labels)) equal in
              leads_on there
              (record {
                place = onward-place;
                sound = sound-of (safe there);
                rep = below e {d = depth - (group - 27)} (omega (arith, if-group e));
                many = C.many;
                marked = C.marked;
                marks_long = C.marks_long;
              })

      -- asked of `branch`, and what it leaves
      pub may_branch : t ≡ true → Branching s index (depth - (group - 27)) nest stack marks
      may_branch tr = let k = is-taken tr in record { valid = v; state = k.state; labels = c.labels; locals = locals; mem = mem; leads = k.leads }

      pub branched : t ≡ true → {at' depth' nest' : ℕ} {stack' : List ℕ} → Branched s index (depth - (group - 27)) nest stack marks at' depth' nest' stack'
          → Led s h (step s h c) at' depth' nest' stack' marks locals mem
      branched tr {at'} {depth'} {nest'} {stack'} led =
          let k = is-taken tr in
          subst (λ (g : Stage). Led s h g at' depth' nest' stack' marks locals mem) (sym k.step_is) (led v k.state c.labels locals mem k.leads)
