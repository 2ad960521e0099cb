-- The run, instruction after instruction: what is left to do is what the standard's machine has left, with the rest of the budget.
use Prim.Native.Nat.{ℕ, suc, ◌+◌, ◌*◌, ◌-◌, ◌≤◌, ◌<◌}
use mathlib.Core.Path.{◌≡◌, refl, ap, ap₂, sym, ◌∙◌, subst}
use mathlib.Core.Bool.{Bool, true, false}
use mathlib.Core.List.{List}
use mathlib.Core.Option.{Option}
use native.Mathlib.Omega.{arith}
use native.Mathlib.Numerals.{add-one}
use lib.ListN.{length}
use Rattle.card.specs.Card.{DONE, TRAP, BUDGET}
use Rattle.limits.specs.Limits.{slot, stack_limit, file_limit}
use Rattle.opcode.specs.Table.{Code, carried, latest}
use Rattle.opcode.specs.Number.{id_of, row_of, group_of, group_of_code}
use Rattle.opcode.specs.Entry.{entry_of, group_in}
use Rattle.opcode.proofs.Entries.{group-in}
use Rattle.instr.specs.declared.Instr.{Instr}
use Rattle.instr.specs.declared.Decoded.{Decoded}
use Rattle.instr.specs.declared.Fetched.{Fetched}
use Rattle.instr.specs.Decode.{decode_at, decode_in}
use Rattle.instr.specs.Fetch.{fetch_of}
use Rattle.instr.proofs.Ranges.{stands-inside}
use Rattle.machine.specs.Value.{Value}
use Rattle.machine.specs.Memory.{part}
use Rattle.machine.specs.Inner.Fit.{Fits, DidBy, bounds_of}
use Rattle.machine.specs.Inner.Fit.{Ready}
use Rattle.std.specs.Prelude.{Ok, Err}
use Rattle.std.specs.declared.result.Result.{Result}
use Rattle.machine.specs.declared.access.PastEnd.{PastEnd}
use Rattle.machine.specs.Answer.{Reach, in_reach, told_bounds}
use Rattle.rules.specs.Header.{Header}
use Rattle.rules.specs.Strip.{Reads, Valid}
use Rattle.rules.proofs.Onward.{declared}
use Rattle.standard.specs.Standard.{Config, Stage, going, ended, trapped, step}
use Rattle.standard.specs.Safety.{Safe}
use Rattle.standard.proofs.Turn.{safe-step}
use Rattle.run.specs.Meter.{Left, leaves, paused, meter, meter_by}
use Rattle.run.specs.Run.{Slots}
use Rattle.run.specs.Inner.Carried.{turns_at, Carries, Stacked, Going, Seen, Led, leads_on, leads_out}
use Rattle.run.proofs.HeaderBytes.{version-read, result_count_lem}
use Rattle.run.proofs.Places.{late}
use Rattle.run.proofs.Leading.{sound-of}
use Rattle.run.proofs.Turning.{row_is, fits, ready, is-clear, is-past, did}
use Rattle.run.proofs.Ways.{Way, turning, goes_to, traps-at, way}

pub not-clear : {b : Result (Unit {0}) PastEnd} {e : PastEnd} → b ≡ Err e → b ≡ Ok tt → ⊥
not-clear e f = let z : ◌≡◌ {A = ℕ} 0 1 = cc in omega arith

reach-clear : (b : Result (Unit {0}) PastEnd) → told_bounds b ≡ in_reach → b ≡ Ok tt
reach-clear (Ok x) e = refl
reach-clear (Err a) e = absurd (let z : TRAP ≡ DONE = ap (λ (x : Reach). x.code) e in omega (arith, z))

-- a strip has one number of results
results-once : {s : List ℕ} (v w : Valid s) (out : List ℕ) → Slots v.header.results out → Slots w.header.results out
results-once v w out e = e ∙ ap (λ (n : ℕ). slot * n) (sym (result_count_lem (declared v.reached)) ∙ result_count_lem (declared w.reached))

-- from the configuration c₀ on, with so much of the budget left
pub record Drives (s : List ℕ) (v : Valid s) (c₀ : Config) (mem₀ out : List ℕ) (budget : ℕ) (mem results stack marks locals : List ℕ) (at depth nest left : ℕ) : Type 0 where
  pub config : Config
  pub carries : Carries s v.header config at depth nest stack marks locals mem
  pub slots : Slots v.header.results out
  pub within : left ≤ budget
  pub same : (img : Option (List ℕ)) → meter s v.header budget 0 c₀ out img ≡ meter s v.header left (budget - left) config out img
  pub untouched : results ≡ out
  pub long : length mem ≡ length mem₀

pub starts : {s : List ℕ} (v : Valid s) (c₀ : Config) (budget : ℕ) {out stack marks locals mem : List ℕ} {at depth nest : ℕ}
    → Carries s v.header c₀ at depth nest stack marks locals mem
    → Going s out at depth nest stack marks locals mem → Drives s v c₀ mem out budget mem out stack marks locals at depth nest budget
starts {s} v c₀ budget {out} C g =
    record {
      config = c₀;
      carries = C;
      slots = results-once g.held.valid v out g.slots;
      within = omega arith;
      same = λ img. let none : 0 ≡ budget - budget = omega arith in ap (λ (n : ℕ). meter s v.header budget n c₀ out img) none;
      untouched = refl;
      long = refl;
    }

module _ {s : List ℕ} {v : Valid s} {c₀ : Config} {mem₀ out : List ℕ} {budget : ℕ} {mem results stack marks locals : List ℕ} {at depth nest left : ℕ}
    (D : Drives s v c₀ mem₀ out budget mem results stack marks locals at depth nest left) where
  abbrev h : Header
  h = v.header

  abbrev c : Config
  c = D.config

  -- ---- the meter

  -- this is left, whichever buffer is lent for an image
  abbrev Is : (Option (List ℕ) → Left) → Type 0
  Is l = (img : Option (List ℕ)) → l img ≡ meter s h budget 0 c₀ out img

  abbrev steps : ℕ
  steps = budget - left

  -- what is left here
  here : (code : ℕ) (i : Option (List ℕ)) → leaves code c.place steps c.state.memory out i ≡ leaves code at steps mem results i
  here code i =
      ap (λ (p : ℕ). leaves code p steps c.state.memory out i) D.carries.place
      ∙ ap₂ (λ (m o : List ℕ). leaves code at steps m o i) D.carries.rep.memory (sym D.untouched)

  stops : {l : Option (List ℕ) → Left} → ((img : Option (List ℕ)) → meter s h left steps c out img ≡ l img) → Is l
  stops e img = sym (D.same img ∙ e img)

  pub spent : left ≡ 0 → Is (λ img. leaves BUDGET at budget mem results (paused c img))
  unfolding meter
  spent e =
      let all : steps ≡ budget = omega arith in
      stops
      (λ img. ap (λ (k : ℕ). meter s h k steps c out img) e ∙ here BUDGET (paused c img) ∙ ap (λ (n : ℕ). leaves BUDGET at n mem results (paused c img)) all)

  one : 0 < left → (g : Stage) → step s h c ≡ g → (img : Option (List ℕ))
      → meter s h left steps c out img ≡ meter_by steps c out img (λ c. meter s h (left - 1) (suc steps) c out img) g
  unfolding meter
  one more g e img =
      let next : left ≡ suc (left - 1) = omega arith in
      ap (λ (k : ℕ). meter s h k steps c out img) next ∙ ap (meter_by steps c out img (λ c. meter s h (left - 1) (suc steps) c out img)) e

  -- one step further
  goes_on : 0 < left → {d : Config} → step s h c ≡ going d → {mem' stack' marks' locals' : List ℕ} {at' depth' nest' : ℕ}
      → Carries s h d at' depth' nest' stack' marks' locals' mem'
      → length mem' ≡ length mem → Drives s v c₀ mem₀ out budget mem' results stack' marks' locals' at' depth' nest' (left - 1)
  goes_on more {d} e C kept =
      let further : suc steps ≡ budget - (left - 1) = omega (arith, D.within) in
      record {
        config = d;
        carries = C;
        slots = D.slots;
        within = omega (arith, D.within);
        same = λ img. D.same img ∙ one more (going d) e img ∙ ap (λ (n : ℕ). meter s h (left - 1) n d out img) further;
        untouched = D.untouched;
        long = kept ∙ D.long;
      }

  safe : {g : Stage} → step s h c ≡ g → Safe s h c g
  safe e = subst (Safe s h c) e (safe-step v c D.carries.sound)

  pub stacked : Stacked s at depth nest stack marks
  stacked = record { locals = locals; mem = mem; held = record { valid = v; config = c; carries = D.carries } }

  -- ---- the instruction that was fetched here
  module _ (f : Fetched) (fetched : f ≡ fetch_of (decode_in latest s at)) where
    abbrev d : Decoded
    d = f.decoded

    abbrev i : Instr
    i = d.instr

    abbrev id : ℕ
    id = f.id

    abbrev number : ℕ
    number = id_of i.first i.number

    id_is : id ≡ number
    id_is = subst (λ (x : Fetched). x.id ≡ id_of x.decoded.instr.first x.decoded.instr.number) (sym fetched) refl

    entry_is : f.entry ≡ entry_of (row_of id)
    entry_is = subst (λ (x : Fetched). x.entry ≡ entry_of (row_of x.id)) (sym fetched) refl

    stands : Way s h c i d.len
    stands = way v c D.carries.sound d (ap (λ (x : Fetched). x.decoded) fetched ∙ ap (decode_at latest s) (sym D.carries.place))

    pub inside : at + d.len ≤ file_limit
    inside = by stands
      where
        there : {k : Code} → Reads h.version s c.place i k d.len → at + d.len ≤ file_limit
        there r = omega (arith, stands-inside r.stands, D.carries.place, (declared v.reached).sized)

        by : Way s h c i d.len → at + d.len ≤ file_limit
        by (turning r e) = there r
        by (goes_to r e q x) = there r
        by (traps-at r e q x) = there r

    module _ (group : ℕ) (grouped : group ≡ group_in f.entry) where
      group_is : {k : Code} → Reads h.version s c.place i k d.len → group ≡ group_of_code k
      group_is r = grouped ∙ group-in (row_of id) entry_is ∙ ap (λ (n : ℕ). group_of (row_of n)) id_is ∙ ap group_of (row_is r)

      row : {k : Code} → Reads h.version s c.place i k d.len → row_of id ≡ carried k
      row r = ap row_of id_is ∙ row_is r

      module _ {t : Bool} (tested : t ≡ turns_at group) where
        sort : {k : Code} → Reads h.version s c.place i k d.len → t ≡ turns_at (group_of_code k)
        sort r = tested ∙ ap turns_at (group_is r)

        both : {A : Type 0} {x : Bool} → x ≡ true → x ≡ false → A
        both a b = absurd (let y : true ≡ false = sym a ∙ b in let z : ◌≡◌ {A = ℕ} 0 1 = cc (y) in omega arith)

        -- ---- `end`, blocks and branches: asked of `turn`

        pub seen : t ≡ true → Seen s at group i.index i.block d.len
        seen so = by stands
          where
            by : Way s h c i d.len → Seen s at group i.index i.block d.len
            by (turning {k} r e) =
                record {
                  instr = i;
                  code = k;
                  reads =
                      subst (λ (n : ℕ). Reads n s at i k d.len) (sym (version-read (declared v.reached)))
                      (subst (λ (p : ℕ). Reads h.version s p i k d.len) D.carries.place r);
                  group_is = group_is r;
                  index_is = refl;
                  block_is = refl;
                  turning = sym tested ∙ so;
                }
            by (goes_to r e q x) = both so (sort r ∙ e)
            by (traps-at r e q x) = both so (sort r ∙ e)

        -- ---- the others: asked of `bounds`

        module _ (ordinary : t ≡ false) where
          pub bounds-fits : (f.entry ≡ entry_of (row_of id)) × Fits id stack depth
          bounds-fits = (entry_is, subst (λ (n : ℕ). Fits n stack depth) (sym id_is) (by stands))
            where
              by : Way s h c i d.len → Fits number stack depth
              by (turning r e) = both (sort r ∙ e) ordinary
              by (goes_to r e q x) = fits r h.results D.carries.rep q (λ z. let w : ◌≡◌ {A = ℕ} 0 1 = cc in omega arith)
              by (traps-at r e q x) = fits r h.results D.carries.rep q (λ z. let w : ◌≡◌ {A = ℕ} 0 1 = cc in omega arith)

          module _ (b : Result (Unit {0}) PastEnd) (told : (c : Code) → row_of id ≡ carried c → told_bounds b ≡ bounds_of c i stack depth (length mem)) where
            -- within the memory: asked of `exec`, and what it leaves
            module _ (clear : b ≡ Ok tt) where
              pub exec-apt : (f.entry ≡ entry_of (row_of id)) × Ready id i stack depth locals mem
              exec-apt = (entry_is, subst (λ (n : ℕ). Ready n i stack depth locals mem) (sym id_is) (by stands))
                where
                  by : Way s h c i d.len → Ready number i stack depth locals mem
                  by (turning r e) = both (sort r ∙ e) ordinary
                  by (goes_to r e q x) = ready r h.results D.carries.rep q
                  by (traps-at r e q x) = absurd (is-past r h.results D.carries.rep q b (told _ (row r)) clear)

              pub onward : 0 < left → {depth' : ℕ} {stack' locals' mem' : List ℕ} → DidBy id i stack depth locals mem depth' stack' locals' mem'
                  → length mem' ≡ length mem
                  → Drives s v c₀ mem₀ out budget mem' results stack' marks locals' (at + d.len) depth' nest (left - 1)
              onward more {depth'} {stack'} {locals'} {mem'} by_code kept = by stands
                where
                  by : Way s h c i d.len → Drives s v c₀ mem₀ out budget mem' results stack' marks locals' (at + d.len) depth' nest (left - 1)
                  by (turning r e) = both (sort r ∙ e) ordinary
                  by (traps-at r e q x) = absurd (is-past r h.results D.carries.rep q b (told _ (row r)) clear)
                  by (goes_to {τ = τ} r e q x) =
                      goes_on more x
                      (record {
                        place = ap (λ (p : ℕ). p + d.len) D.carries.place;
                        sound = sound-of (safe x);
                        rep = did r h.results D.carries.rep q (subst (λ (n : ℕ). DidBy n i stack depth locals mem depth' stack' locals' mem') id_is by_code);
                        many = D.carries.many;
                        marked = D.carries.marked;
                        marks_long = D.carries.marks_long;
                      })
                      kept

            -- past its end
            pub strayed : 0 < left → (b ≡ Ok tt → ⊥) → Is (leaves TRAP at steps mem results)
            strayed more out-of-reach = by stands
              where
                by : Way s h c i d.len → Is (leaves TRAP at steps mem results)
                by (turning r e) = both (sort r ∙ e) ordinary
                by (goes_to r e q x) = absurd (out-of-reach (reach-clear b (told _ (row r) ∙ is-clear r h.results D.carries.rep q)))
                by (traps-at {a = a} {m = m} r e q x) = stops (λ img. one more (trapped a m) x img ∙ here TRAP img)

  -- ---- what `turn` leaves

  module _ {at' depth' nest' : ℕ} {stack' marks' : List ℕ} (led : Led s h (step s h c) at' depth' nest' stack' marks' locals mem) where
    no_place : {e : Config} → Carries s h e at' depth' nest' stack' marks' locals mem → at' ≡ 0 → ⊥
    no_place C z = omega (arith, late C.sound.reached, C.place, z)

    results-long : (vs : List Value) → length vs ≡ length h.results → length results ≡ slot * length vs
    results-long vs n = ap length D.untouched ∙ D.slots ∙ ap (λ (k : ℕ). slot * k) (sym n)

    pub results_fit : at' ≡ 0 → (depth' ≤ stack_limit) × (slot * depth' + length results ≤ length stack')
    results_fit z = by led
      where
        by : Led s h (step s h c) at' depth' nest' stack' marks' locals mem → (depth' ≤ stack_limit) × (slot * depth' + length results ≤ length stack')
        by (leads_on e C) = absurd (no_place C z)
        by (leads_out {vs} e q n few long bytes) = (omega (arith, few), omega (arith, few, long, results-long vs n))

    pub finished : 0 < left → at' ≡ 0 → {o : List ℕ} → o ≡ part (length results) (slot * depth') stack' → Is (leaves DONE 0 (steps + 1) mem o)
    finished more z {o} written = by led
      where
        by : Led s h (step s h c) at' depth' nest' stack' marks' locals mem → Is (leaves DONE 0 (steps + 1) mem o)
        by (leads_on e C) = absurd (no_place C z)
        by (leads_out {vs} e q n few long bytes) =
            stops
            (λ img. one more (ended vs mem) e img
            ∙ ap₂ (λ (k : ℕ) (x : List ℕ). leaves DONE 0 k mem x img) (sym (add-one steps))
            (sym (written ∙ ap (λ (k : ℕ). part k (slot * depth') stack') (results-long vs n) ∙ bytes)))

    pub turned : 0 < left → (at' ≡ 0 → ⊥) → Drives s v c₀ mem₀ out budget mem results stack' marks' locals at' depth' nest' (left - 1)
    turned more ne = by led
      where
        by : Led s h (step s h c) at' depth' nest' stack' marks' locals mem
            → Drives s v c₀ mem₀ out budget mem results stack' marks' locals at' depth' nest' (left - 1)
        by (leads_on e C) = goes_on more e C refl
        by (leads_out e q n few long bytes) = absurd (ne q)
