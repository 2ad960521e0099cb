-- A branch over a flat stack: out of the strip, to a loop, or past the `end` of a block.
use Prim.Native.Nat.{ℕ, zero, suc, ◌+◌, ◌*◌, ◌-◌, ◌≤◌, ◌<◌}
use mathlib.Core.Path.{◌≡◌, refl, ap, ap₂, sym, ◌∙◌, subst}
use mathlib.Core.Bool.{Bool, true, false, cond}
use mathlib.Core.List.{List, [], ◌∷◌, ◌++◌, reverse, append_assoc}
use mathlib.Core.Option.{some}
use native.Mathlib.Omega.{arith}
use lib.Arith.{lt_of_le-ne}
use lib.ListN.{length, get_or, take, drop, length-append, length-map, length-reverse, take-append-drop}
use Rattle.limits.specs.Limits.{slot, stack_limit, stack_bytes, nest_limit}
use Rattle.machine.specs.Value.{Value, kind_of, bytes_of}
use Rattle.machine.specs.Memory.{part}
use Rattle.machine.specs.Exec.{State, of_kinds}
use Rattle.machine.specs.Inner.Flat.{slot_at, put_slot}
use Rattle.machine.specs.Inner.Rep.{Rep, Slots}
use Rattle.machine.proofs.Laws.Rep.{rep-push}
use Rattle.rules.specs.Header.{Header}
use Rattle.rules.specs.Typing.{opened}
use Rattle.rules.specs.Strip.{Valid}
use Rattle.rules.proofs.Onward.{declared}
use Rattle.standard.specs.Closing.{close}
use Rattle.standard.specs.Inner.{ClosesIn}
use Rattle.standard.specs.Standard.{Label, Config, going, ended, with_stack, along, beyond, jump, branch, under_all}
use Rattle.standard.specs.Safety.{Sound, Safe, safe_going, safe_ended}
use Rattle.standard.proofs.ValueKinds.{fit-kinds}
use Rattle.standard.proofs.Finishing.{out_of}
use Rattle.standard.proofs.Unwinding.{Left, finds-end}
use Rattle.run.specs.Inner.Ends.{Closable}
use Rattle.run.proofs.Places.{late, early}
use Rattle.checker.specs.Survey.{LOOP}
use Rattle.run.specs.Inner.Carried.{way_of, Leads, Led, leads_on, leads_out}
use Rattle.run.proofs.HeaderBytes.{version-read, result_count_lem, Counts, counts-read}
use Rattle.run.proofs.Marking.{count_under_lem, rep-under, rep-same, part_bytes, unhalted, unhalted-if, nested-few, targets, Target, target}

module _ {s : List ℕ} {h : Header} where
  pub sound-of : {b d : Config} → Safe s h b (going d) → Sound s h d
  sound-of (safe_going x l) = x

  pub ended-many : {b : Config} {vs : List Value} {mem : List ℕ} → Safe s h b (ended vs mem) → length vs ≡ length h.results
  ended-many {vs = vs} (safe_ended j e sound t k r l) = sym (length-map vs kind_of) ∙ ap length k

-- what the second number tells
loop-by : (t : Bool) (n : ℕ) → n ≤ 1 → cond t LOOP n ≡ LOOP → t ≡ true
loop-by true n l e = refl
loop-by false n l e = absurd (let z : ⊥ = omega arith in z)

block-by : (t : Bool) (n : ℕ) → (cond t LOOP n ≡ LOOP → ⊥) → t ≡ false
block-by true n d = absurd (d refl)
block-by false n d = refl

module _ {s : List ℕ} (v : Valid s) {σ : State} {ls : List Label} {index depth nest : ℕ} {stack marks locals mem : List ℕ}
    (L : Leads s v.header σ ls index depth nest stack marks locals mem) where
  abbrev h : Header
  h = v.header

  pub counts : Counts (declared v.reached)
  counts = counts-read (declared v.reached)

  results-told : get_or s 7 0 ≡ length h.results
  results-told = result_count_lem (declared v.reached)

  pub target-most : index ≤ nest
  target-most = omega (arith, targets s h σ index ls L.safe, L.many)

  pub nest-few : nest ≤ nest_limit
  nest-few = omega (arith, nested-few s h L.nested, L.many)

  pub below-nest : (index ≡ nest → ⊥) → index < nest
  below-nest ne = lt_of_le-ne target-most ne

  -- ---- out of the strip

  module _ (e : index ≡ nest) where
    abbrev along-up : List Value
    along-up = take (length h.results) σ.stack

    abbrev left_behind : List Value
    left_behind = drop (length h.results) σ.stack ++ under_all ls

    outward : branch s h σ index ls ≡ along h.results σ.stack (λ vs. ended (reverse vs) σ.memory)
    outward = ap (λ (n : ℕ). branch s h σ n ls) (e ∙ sym L.many) ∙ out_of s h σ ls

    all-out : branch s h σ index ls ≡ ended (reverse along-up) σ.memory
    all-out = outward ∙ unhalted {s = s} {h = h} {b = L.from} (of_kinds along-up (reverse h.results)) (subst (Safe s h L.from) outward L.safe)

    results-many : length (reverse along-up) ≡ length h.results
    results-many = ended-many (subst (Safe s h L.from) all-out L.safe)

    parted : σ.stack ++ under_all ls ≡ along-up ++ left_behind
    parted = ap (λ (vs : List Value). vs ++ under_all ls) (sym (take-append-drop (length h.results) σ.stack)) ∙ append_assoc along-up (drop (length h.results) σ.stack) (under_all ls)

    behind-many : length h.results + length left_behind ≡ depth
    behind-many = omega (arith, L.rep.depth, ap length parted, length-append along-up left_behind, results-many, length-reverse along-up)

    pub results-there : get_or s 7 0 ≤ depth
    results-there = omega (arith, results-told, behind-many)

    pub leaves-strip : (nest' : ℕ) → Led s h (branch s h σ index ls) 0 (depth - get_or s 7 0) nest' stack marks locals mem
    leaves-strip nest' =
        let here : depth - get_or s 7 0 ≡ length left_behind = omega (arith, results-told, behind-many) in
        leads_out (all-out ∙ ap (ended (reverse along-up)) L.rep.memory) refl results-many (omega (arith, here, behind-many, results-many, L.rep.deep)) L.rep.stack_long
        (ap₂ (λ (a b : ℕ). part (slot * a) (slot * b) stack) (length-reverse along-up) here
        ∙ part_bytes along-up left_behind stack (subst (λ (vs : List Value). Slots vs stack) parted L.rep.slots))

  -- ---- to a label

  module _ (ne : index ≡ nest → ⊥) {k : ℕ} (is : k ≡ nest - 1 - index) where
    inner : index < nest
    inner = lt_of_le-ne target-most ne

    T : Target s h σ index ls marks
    T = target s h σ index ls (omega (arith, inner, L.many)) L.nested L.marked

    abbrev l : Label
    l = T.label

    abbrev rest : List Label
    rest = T.rest

    rest-many : length rest ≡ k
    rest-many = omega (arith, T.many, L.many, is)

    pub k-small : k < nest_limit
    k-small = omega (arith, nest-few, is, inner)

    pub k-inside : 3 * k + 2 < length marks
    k-inside = omega (arith, k-small, L.marks_long)

    height-is : get_or marks (3 * k) 0 ≡ length (under_all (l ∷ rest))
    height-is = ap (λ (n : ℕ). get_or marks (3 * n) 0) (sym rest-many) ∙ T.marked.0 ∙ count_under_lem (l ∷ rest)

    way-is : get_or marks (3 * k + 1) 0 ≡ way_of l
    way-is = ap (λ (n : ℕ). get_or marks (3 * n + 1) 0) (sym rest-many) ∙ T.marked.1

    body_is : get_or marks (3 * k + 2) 0 ≡ l.body
    body_is = ap (λ (n : ℕ). get_or marks (3 * n + 2) 0) (sym rest-many) ∙ T.marked.2

    -- all above the label
    parts : σ.stack ++ under_all ls ≡ (σ.stack ++ T.between) ++ under_all (l ∷ rest)
    parts = ap (λ (vs : List Value). σ.stack ++ vs) T.under ∙ sym (append_assoc σ.stack T.between (under_all (l ∷ rest)))

    whole : Rep (with_stack σ ((σ.stack ++ T.between) ++ under_all (l ∷ rest))) stack depth locals mem
    whole = rep-same σ parts L.rep

    label-rep : Rep (with_stack σ (under_all (l ∷ rest))) stack (get_or marks (3 * k) 0) locals mem
    label-rep = rep-under σ (σ.stack ++ T.between) (under_all (l ∷ rest)) whole height-is

    safe-jump : Safe s h L.from (jump s h σ l rest)
    safe-jump = subst (Safe s h L.from) T.jumps L.safe

    -- a loop begins again
    pub loops : get_or marks (3 * k + 1) 0 ≡ LOOP
        → Led s h (branch s h σ index ls) (get_or marks (3 * k + 2) 0) (get_or marks (3 * k) 0) (k + 1) stack marks locals mem
    loops e =
        let again : Config = record { place = l.body; state = with_stack σ []; labels = l ∷ rest } in
        let is_loop : l.loop ≡ true = loop-by l.loop (length l.results) T.marked.3 (sym way-is ∙ e) in
        let there : jump s h σ l rest ≡ going again =
        ap (λ (t : Bool). cond t (going again) (along l.results σ.stack (λ vs. beyond σ l rest vs (close h.version s l.body)))) is_loop in
        leads_on (T.jumps ∙ there)
        (record {
          place = sym body_is;
          sound = sound-of (subst (Safe s h L.from) there safe-jump);
          rep = label-rep;
          many = omega (arith, rest-many);
          marked = T.marked;
          marks_long = L.marks_long;
        })

    -- where a block ends
    to : Left s h l.body (opened T.frame.loop T.frame.results) T.around T.outer
    to = finds-end v T.reached

    pub closable : Closable s (get_or marks (3 * k + 2) 0) (nest_limit - 1 - k)
    closable =
        record {
          place = to.place;
          closes =
              subst (λ (b : ℕ). ClosesIn (get_or s 3 0) s (nest_limit - 1 - k) b to.place) (sym body_is)
              (subst (λ (n : ℕ). ClosesIn n s (nest_limit - 1 - k) l.body to.place) (sym (version-read (declared v.reached)))
              (to.with-room (nest_limit - 1 - k) (omega (arith, T.frames, rest-many, k-small))));
          late = omega (arith, body_is, late T.reached);
          body_small = omega (arith, body_is, early v T.reached);
          place_small = omega (arith, early v to.reached);
        }

    -- a block is left
    module _ (other : get_or marks (3 * k + 1) 0 ≡ LOOP → ⊥) (q : ℕ) (found : close (get_or s 3 0) s (get_or marks (3 * k + 2) 0) ≡ some q) where
      q-is : q ≡ to.place
      q-is =
          let same : close (get_or s 3 0) s (get_or marks (3 * k + 2) 0) ≡ some to.place =
          ap₂ (λ (n p : ℕ). close n s p) (version-read (declared v.reached)) body_is ∙ to.found in
          cc

      no_loop : l.loop ≡ false
      no_loop = block-by l.loop (length l.results) (λ e. other (way-is ∙ e))

      way-many : get_or marks (3 * k + 1) 0 ≡ length l.results
      way-many = way-is ∙ ap (λ (t : Bool). cond t LOOP (length l.results)) no_loop

      abbrev taken : List Value
      taken = take (length l.results) σ.stack

      abbrev next : Config
      next = record { place = to.place; state = with_stack σ (taken ++ l.under); labels = rest }

      block-jump : jump s h σ l rest ≡ along l.results σ.stack (λ vs. beyond σ l rest vs (close h.version s l.body))
      block-jump =
          let again : Config = record { place = l.body; state = with_stack σ []; labels = l ∷ rest } in
          ap (λ (t : Bool). cond t (going again) (along l.results σ.stack (λ vs. beyond σ l rest vs (close h.version s l.body))))
          no_loop

      safe-along : Safe s h L.from (along l.results σ.stack (λ vs. beyond σ l rest vs (close h.version s l.body)))
      safe-along = subst (Safe s h L.from) block-jump safe-jump

      there : jump s h σ l rest ≡ going next
      there = block-jump ∙ unhalted {s = s} {h = h} {b = L.from} (of_kinds taken (reverse l.results)) safe-along ∙ ap (beyond σ l rest taken) to.found

      taken-many : length taken ≡ length l.results
      taken-many =
          sym (length-map taken kind_of)
          ∙ ap length (fit-kinds taken (reverse l.results)
          (unhalted-if {s = s} {h = h} {b = L.from} (of_kinds taken (reverse l.results)) (beyond σ l rest taken (close h.version s l.body))
          safe-along))
          ∙ length-reverse l.results

      leaves-block : {stack' : List ℕ} {depth' : ℕ} → Rep (with_stack σ (taken ++ under_all (l ∷ rest))) stack' depth' locals mem
          → Led s h (branch s h σ index ls) q depth' k stack' marks locals mem
      leaves-block rep =
          leads_on (T.jumps ∙ there)
          (record {
            place = sym q-is;
            sound = sound-of (subst (Safe s h L.from) there safe-jump);
            rep = rep-same σ (sym (append_assoc taken l.under (under_all rest))) rep;
            many = rest-many;
            marked = T.marked.4;
            marks_long = L.marks_long;
          })

      -- with nothing
      pub leaves-bare : get_or marks (3 * k + 1) 0 ≡ 0 → Led s h (branch s h σ index ls) q (get_or marks (3 * k) 0) k stack marks locals mem
      leaves-bare e =
          let none : [] ≡ taken = ap (λ (n : ℕ). take n σ.stack) (sym (sym way-many ∙ e)) in
          leaves-block (rep-same σ (ap (λ (vs : List Value). vs ++ under_all (l ∷ rest)) none) label-rep)

      -- with the value on top
      module _ (some : get_or marks (3 * k + 1) 0 ≡ 0 → ⊥) where
        one : length l.results ≡ 1
        one = let m : length l.results ≡ 0 → ⊥ = λ e. some (way-many ∙ e) in let f = T.marked.3 in by (length l.results) f m
          where
            by : (n : ℕ) → n ≤ 1 → (n ≡ 0 → ⊥) → n ≡ 1
            by zero f m = absurd (m refl)
            by (suc zero) f m = refl
            by (suc (suc n)) f m = absurd (let z : ⊥ = omega arith in z)

        record Top : Type 0 where
          value : Value
          under : List Value
          stack_is : σ.stack ≡ value ∷ under
          taken_is : taken ≡ value ∷ []

        top : Top
        top = by σ.stack refl (sym taken-many ∙ ap (λ (n : ℕ). length (take n σ.stack)) one)
          where
            by : (vs : List Value) → σ.stack ≡ vs → length l.results ≡ length (take 1 σ.stack) → Top
            by [] e f = absurd (let z : length l.results ≡ 0 = f ∙ ap (λ (x : List Value). length (take 1 x)) e in omega (arith, z, one))
            by (x ∷ xs) e f =
                record { value = x; under = xs; stack_is = e; taken_is = ap₂ (λ (n : ℕ) (vs : List Value). take n vs) one e }

        held : Rep (with_stack σ (top.value ∷ (top.under ++ under_all ls))) stack depth locals mem
        held = rep-same σ (ap (λ (vs : List Value). vs ++ under_all ls) top.stack_is) L.rep

        top-slot : slot_at stack (depth - 1) ≡ bytes_of top.value
        top-slot = let e : depth - 1 ≡ length (top.under ++ under_all ls) = omega (arith, held.depth) in ap (slot_at stack) e ∙ held.slots.0

        pub deep-enough : (1 ≤ depth) × (depth ≤ stack_limit) × (get_or marks (3 * k) 0 < depth) × (length stack ≡ stack_bytes)
        deep-enough = (
          omega (arith, held.depth),
          L.rep.deep,
          omega (
            arith,
            height-is,
            L.rep.depth,
            ap length parts,
            length-append (σ.stack ++ T.between) (under_all (l ∷ rest)),
            length-append σ.stack T.between,
            ap length top.stack_is,
          ),
          L.rep.stack_long,
        )

        pub leaves-with : {stack' : List ℕ} → stack' ≡ put_slot stack (get_or marks (3 * k) 0) (slot_at stack (depth - 1))
            → Led s h (branch s h σ index ls) q (get_or marks (3 * k) 0 + 1) k stack' marks locals mem
        leaves-with {stack'} e =
            subst (λ (st : List ℕ). Led s h (branch s h σ index ls) q (get_or marks (3 * k) 0 + 1) k st marks locals mem) (sym e)
            (leaves-block (rep-same σ (ap (λ (vs : List Value). vs ++ under_all (l ∷ rest)) (sym top.taken_is))
            (rep-push L.rep (under_all (l ∷ rest)) label-rep.slots label-rep.stack_range top.value (slot_at stack (depth - 1)) (get_or marks (3 * k) 0) (get_or marks (3 * k) 0 + 1)
            held.stack_range.0 top-slot height-is (omega (arith, height-is)) (omega (arith, deep-enough)))))
