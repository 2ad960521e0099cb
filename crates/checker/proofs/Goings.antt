-- The instructions, one after the other.
use Prim.Native.Nat.{ℕ, ◌+◌, ◌≤◌, ◌<◌}
use mathlib.Core.Path.{◌≡◌, refl, sym, ap, subst, ◌∙◌}
use mathlib.Core.Bool.{Bool, true, false, ◌&&◌}
use mathlib.Core.List.{List, [], ◌∷◌}
use mathlib.Core.Logic.{◌⊎◌, inl, inr}
use native.Mathlib.Nat.{pos_of_ne-zero, eq-or-lt_of_le}
use native.Mathlib.Omega.{arith}
use borrow.Author.Tests.{eqb-true, eqb-false, eq-eqb}
use lib.Dec.{eqb}
use lib.ListN.{length, length-append}
use Rattle.std.specs.Prelude.{Ok, Err}
use Rattle.std.specs.declared.result.Result.{Result}
use Rattle.card.specs.Card.{DONE}
use Rattle.limits.specs.Limits.{file_limit, stack_limit, nest_limit}
use Rattle.leb128.specs.Bytes.{bytes}
use Rattle.opcode.specs.Kind.{Kind}
use Rattle.opcode.specs.Table.{End, Code, plain, carried}
use Rattle.opcode.specs.Number.{group_of_code}
use Rattle.opcode.specs.Entry.{entry_of, group_in}
use Rattle.opcode.proofs.Id.{row-of-id}
use Rattle.opcode.proofs.Versions.{row-latest}
use Rattle.opcode.proofs.Entries.{group-in}
use Rattle.opcode.proofs.Groups.{by-group}
use Rattle.instr.specs.declared.Instr.{Instr}
use Rattle.instr.specs.declared.Scanned.{Scanned}
use Rattle.instr.specs.Layout.{row_in, Stands}
use Rattle.instr.specs.Decode.{decode_at, decode_in}
use Rattle.instr.specs.Scan.{scan_of}
use Rattle.instr.proofs.Stands.{decoded-stands}
use Rattle.instr.proofs.Ranges.{stands-some, stands-inside}
use Rattle.rules.specs.Header.{Header, locals}
use Rattle.rules.specs.Typing.{Frame, opened, all_values, Types, Opens, block_opens, loop_opens}
use Rattle.rules.specs.Strip.{Reads, Reaches, front, past}
use Rattle.rules.specs.Breach.{At, Breach, local, nest, label, operand, deep, result}
use Rattle.rules.proofs.Headers.{decodes-known}
use Rattle.checker.specs.declared.turns.State.{State}
use Rattle.checker.specs.Walk.{OpenBlocks, strip, block, Framed}
use Rattle.checker.specs.Inner.Stack.{Top}
use Rattle.checker.specs.Inner.Judging.{Judges, no_local, too_nested, no_label, untyped, no_results, too_deep, typed, Faces, AtTurn}
use Rattle.checker.specs.Inner.Parts.{AtEnd}
use Rattle.checker.specs.Inner.Going.{Begins, Going}
use Rattle.checker.proofs.Held.{held-long}
use Rattle.checker.proofs.Refusals.{refused-breach}
use Rattle.checker.proofs.Words.{type-small}
use Rattle.checker.proofs.Nests.{nested-many, framed-top, frames-case}
use Rattle.checker.proofs.Indices.{row_carried, index-named, index-typed}

-- ---- before the first

abbrev pub first-going : {s : List ℕ} {v n takes start : ℕ} (kinds blocks : List ℕ) → length kinds ≡ stack_limit → length blocks ≡ nest_limit → Begins s v n takes start
    → Going s v n takes kinds blocks 0 0 0 false start
first-going {s} kinds blocks lk lb b =
    record {
      header = b.header;
      setting = b.setting;
      frames = opened false b.header.results ∷ [];
      framed = record {
        holds = record { many = refl; rest = kinds; here = refl };
        nested = strip refl refl;
        within = record { blocks = omega arith; values = omega arith };
      };
      reached = subst (λ (x : ℕ). Reaches s b.header x (opened false b.header.results ∷ [])) b.start_is (front b.setting.declares);
      kinds_long = lk;
      blocks_long = lb;
    }

-- ---- the strip itself

record Alone (rs : List Kind) (floor : ℕ) (dead : Bool) (fs : List Frame) : Type 0 where
  strip-frame : Frame
  frames : fs ≡ strip-frame ∷ []
  results_are : strip-frame.results ≡ rs
  floor_is : floor ≡ 0
  dead_is : strip-frame.dead ≡ dead

alone : {rs : List Kind} {blocks : List ℕ} {nest floor : ℕ} {dead : Bool} {fs : List Frame} → OpenBlocks rs blocks nest floor dead fs → nest ≡ 0 → Alone rs floor dead fs
alone (strip {f} l r) z = record { strip-frame = f; frames = refl; results_are = r; floor_is = refl; dead_is = refl }
alone (block y n e t r) z = absurd (let no_more : ⊥ = omega arith in no_more)

both_true : (a b : Bool) → (a && b) ≡ true → (a ≡ true) × (b ≡ true)
both_true true true e = (refl, refl)
both_true true false e = absurd (let z : ◌≡◌ {A = ℕ} 0 1 = cc in omega arith)
both_true false b e = absurd (let z : ◌≡◌ {A = ℕ} 0 1 = cc in omega arith)

not-both : (a b : Bool) → (a && b) ≡ false → b ≡ true → a ≡ false
not-both true true e t = absurd (let z : ◌≡◌ {A = ℕ} 0 1 = cc in omega arith)
not-both true false e t = absurd (let z : ◌≡◌ {A = ℕ} 0 1 = cc in omega arith)
not-both false b e t = refl

-- ---- one instruction

-- a line of the card is a breach there
abbrev pub Breaks : List ℕ → ℕ → Result State ℕ → Type 0
Breaks s at (Ok st) = Unit {0}
Breaks s at (Err e) = Breach s e at

breaks-of : {s : List ℕ} {h : Header} {at : ℕ} {fs : List Frame} {i : Instr} {c : Code} {kinds blocks : List ℕ} {r : Result State ℕ} → At s h at fs i c
    → Judges (locals h) h.results i c fs kinds blocks r → Breaks s at r
breaks-of a (no_local names f) = local a names f
breaks-of a (too_nested o g) = nest a o g
breaks-of a (no_label b f) = label a b f
breaks-of a (untyped e names labels f) = operand a e names labels f
breaks-of {s} {h} {at} {fs} {i} a (no_results e f) = result (subst (λ (c : Code). At s h at fs i c) e a) f
breaks-of a (too_deep t big) = deep a t big
breaks-of a (typed t g) = tt

-- else the instruction is typed
abbrev pub Steps-on : List Kind → List Kind → Instr → Code → List Frame → List ℕ → List ℕ → Result State ℕ → Type 0
Steps-on ls rs i c fs kinds blocks (Ok st) = (fs' : List Frame) × Types ls i c fs fs' × Framed rs kinds blocks st.depth st.nest st.floor st.dead fs'
Steps-on ls rs i c fs kinds blocks (Err e) = Unit {0}

goes_of : {ls rs : List Kind} {i : Instr} {c : Code} {fs : List Frame} {kinds blocks : List ℕ} {r : Result State ℕ}
    → Judges ls rs i c fs kinds blocks r → Steps-on ls rs i c fs kinds blocks r
goes_of (no_local names f) = tt
goes_of (too_nested o g) = tt
goes_of (no_label b f) = tt
goes_of (untyped e names labels f) = tt
goes_of (no_results e f) = tt
goes_of (too_deep t big) = tt
goes_of (typed {fs'} t g) = (fs', t, g)

-- past it
abbrev pub gone-on : {s : List ℕ} {v n takes : ℕ} {kinds blocks kinds' blocks' : List ℕ} {depth nest floor depth' nest' floor' : ℕ} {dead dead' : Bool} {at len : ℕ}
    {i : Instr} {c : Code} {fs' : List Frame} (w : Going s v n takes kinds blocks depth nest floor dead at) → Reads w.header.version s at i c len
    → Types (locals w.header) i c w.frames fs' → Framed w.header.results kinds' blocks' depth' nest' floor' dead' fs' → length kinds' ≡ stack_limit
    → length blocks' ≡ nest_limit → Going s v n takes kinds' blocks' depth' nest' floor' dead' (at + len)
gone-on {fs' = fs'} w r t f lk lb =
    record {
      header = w.header;
      setting = w.setting;
      frames = fs';
      framed = f;
      reached = past w.reached r t f.within;
      kinds_long = lk;
      blocks_long = lb;
    }

module _ {s : List ℕ} {v n takes : ℕ} {kinds blocks : List ℕ} {depth nest floor : ℕ} {dead : Bool} {at : ℕ}
    (w : Going s v n takes kinds blocks depth nest floor dead at) (d : Scanned) (is : d ≡ scan_of (decode_in v s at)) where
  told : d ≡ scan_of (decode_at w.header.version s at)
  told = is ∙ ap (λ (x : ℕ). scan_of (decode_in x s at)) (sym w.setting.version_is) ∙ ap scan_of (decodes-known w.header.version w.setting.declares.versioned s at)

  pub refuses : bytes s → (d.code ≡ DONE → ⊥) → Breach s d.code d.place
  refuses b z =
      subst (λ (x : Scanned). Breach s x.code x.place) (sym told) (refused-breach w.reached b (λ e. z (ap (λ (x : Scanned). x.code) told ∙ e)))

  module _ (b : bytes s) (z : d.code ≡ DONE) where
    stands : Stands w.header.version s at (decode_at w.header.version s at).instr d.len
    stands =
        subst (Stands w.header.version s at (decode_at w.header.version s at).instr) (sym (ap (λ (x : Scanned). x.len) told))
        (decoded-stands s b w.header.version at (sym (ap (λ (x : Scanned). x.code) told) ∙ z))

    -- the code that was read
    pub coded : (c : Code) × Reads w.header.version s at (decode_at w.header.version s at).instr c d.len
    coded =
        let i = (decode_at w.header.version s at).instr in
        let c = row_carried (row_in w.header.version i) i stands.allowed in (c.0, record { stands = stands; does = c.1 })

    pub moves : (0 < d.len) × (at + d.len ≤ length s) × (length s ≤ file_limit)
    moves = (stands-some stands, stands-inside stands, w.setting.declares.sized)

    its-entry : d.entry ≡ entry_of (carried coded.0)
    its-entry =
        let i = (decode_at w.header.version s at).instr in
        ap (λ (x : Scanned). x.entry) told
        ∙ ap entry_of (row-of-id i.first i.number stands.typed.first ∙ row-latest w.header.version i.first i.number coded.1.does)

    its-group : group_in d.entry ≡ group_of_code coded.0
    its-group = group-in (carried coded.0) its-entry

    pub here : At s w.header at w.frames (decode_at w.header.version s at).instr coded.0
    here = record { reached = w.reached; size = d.len; reads = coded.1 }

    -- ---- the strip's own `end`

    pub is-end : (eqb nest 0 && eqb (group_in d.entry) 0) ≡ true → (nest ≡ 0) × (coded.0 ≡ plain End)
    is-end e =
        let two = both_true (eqb nest 0) (eqb (group_in d.entry) 0) e in
        (eqb-true nest 0 two.0, by-group (λ c. c ≡ plain End) 0 refl coded.0 (sym its-group ∙ eqb-true (group_in d.entry) 0 two.1))

    pub no_end : (eqb nest 0 && eqb (group_in d.entry) 0) ≡ false → coded.0 ≡ plain End → nest ≡ 0 → ⊥
    no_end e it = eqb-false nest 0 (not-both (eqb nest 0) (eqb (group_in d.entry) 0) e (eq-eqb (group_in d.entry) 0 (its-group ∙ ap group_of_code it)))

    pub at-end : (eqb nest 0 && eqb (group_in d.entry) 0) ≡ true → AtEnd s v takes at kinds depth dead
    at-end e =
        let it = (is-end e).1 in
        let k = alone w.framed.nested (is-end e).0 in
        let framed : Framed w.header.results kinds blocks depth nest floor dead (k.strip-frame ∷ []) = subst
        (Framed w.header.results kinds blocks depth nest floor dead) k.frames w.framed in
        let at-strip : At s w.header at (k.strip-frame ∷ []) (decode_at w.header.version s at).instr coded.0 =
        subst (λ (x : List Frame). At s w.header at x (decode_at w.header.version s at).instr coded.0) k.frames here in
        record {
          header = w.header;
          declares = w.setting.declares;
          takes_is = w.setting.takes_is;
          strip = k.strip-frame;
          results_are = k.results_are;
          top = subst (λ (x : ℕ). Top kinds depth x dead [] k.strip-frame) k.floor_is (framed-top framed);
          long = held-long w.framed.holds;
          final = (decode_at w.header.version s at).instr;
          here = subst (λ (c : Code). At s w.header at (k.strip-frame ∷ []) (decode_at w.header.version s at).instr c) it at-strip;
        }

    -- ---- every other

    module _ (other : (eqb nest 0 && eqb (group_in d.entry) 0) ≡ false) where
      faces : Faces s n takes d.entry d.immediate kinds blocks depth nest floor dead coded.0 (decode_at w.header.version s at).instr (locals w.header) w.header.results w.frames
      faces =
          record {
            row = its-entry;
            names = λ f. ap (λ (x : Scanned). x.immediate) told ∙ index-named coded.1 f;
            types = λ o. let t = index-typed coded.1 o in (ap (λ (x : Scanned). x.immediate) told ∙ t.0, t.1);
            locals_are = w.setting.locals_are;
            results_are = w.setting.takes_is;
            few = w.setting.declares.few.results;
            framed = w.framed;
          }

      type-small-of : Opens coded.0 → d.immediate < 256
      type-small-of o = let t = faces.types o in omega (arith, t.0, type-small (decode_at w.header.version s at).instr.block t.1)

      opened-by : 25 ≤ group_in d.entry → group_in d.entry < 27 → Opens coded.0
      opened-by l h = by (eq-or-lt_of_le l)
        where
          by : (25 ≡ group_in d.entry) ⊎ (25 < group_in d.entry) → Opens coded.0
          by (inl e) = by-group Opens 25 block_opens coded.0 (sym its-group ∙ sym e)
          by (inr m) = by-group Opens 26 loop_opens coded.0 (sym its-group ∙ (let e : group_in d.entry ≡ 26 = omega (arith, m, h) in e))

      pub ready : AtTurn takes d.entry d.immediate kinds blocks depth nest floor
      ready =
          let x = tops in
          record {
            small = w.setting.takes_small;
            type_in = λ l h. type-small-of (opened-by l h);
            end_inner = λ e. let f = eqb-false nest 0 (not-both (eqb nest 0) (eqb (group_in d.entry) 0) other (eq-eqb (group_in d.entry) 0 e)) in pos_of_ne-zero f;
            floor_in = x;
            depth_in = omega (arith, w.framed.holds.many, w.framed.within.values);
            nest_in = omega (arith, nested-many w.framed.nested, w.framed.within.blocks);
            kinds_long = w.kinds_long;
            blocks_long = w.blocks_long;
          }
        where
          tops : floor ≤ depth
          tops = frames-case (λ x. Framed w.header.results kinds blocks depth nest floor dead x → floor ≤ depth) w.framed.nested
              (λ f rest u. let t = framed-top u in omega (arith, t.floor_is, t.holds.many, length-append (all_values rest) f.values)) w.framed

      module _ {kinds' blocks' : List ℕ} {r : Result State ℕ}
          (j : (c : Code) (i : Instr) (ls rs : List Kind) (fs : List Frame) → Faces s n takes d.entry d.immediate kinds blocks depth nest floor dead c i ls rs fs
          → Judges ls rs i c fs kinds' blocks' r) where
        pub judgement : Judges (locals w.header) w.header.results (decode_at w.header.version s at).instr coded.0 w.frames kinds' blocks' r
        judgement = j coded.0 (decode_at w.header.version s at).instr (locals w.header) w.header.results w.frames faces

        pub breaks : Breaks s at r
        breaks = breaks-of here judgement

        pub stepped : Steps-on (locals w.header) w.header.results (decode_at w.header.version s at).instr coded.0 w.frames kinds' blocks' r
        stepped = goes_of judgement
