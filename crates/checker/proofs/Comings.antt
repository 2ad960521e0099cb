-- The walk toward a place, and the blocks around it.
use Prim.Native.Nat.{ℕ, suc, ◌+◌, ◌≤◌, ◌<◌}
use mathlib.Core.Path.{◌≡◌, refl, sym, ap, subst, ◌∙◌}
use mathlib.Core.Bool.{Bool, true, false, ◌&&◌, cond}
use mathlib.Core.List.{List, [], ◌∷◌}
use mathlib.Core.Logic.{⊎_elim}
use native.Mathlib.Nat.{eq-or-lt_of_le}
use native.Mathlib.Omega.{arith}
use borrow.Author.Tests.{eqb-true, eqb-false}
use lib.Dec.{eqb}
use lib.ListN.{length, get_or, set, length-set}
use lib.Seq.{get_or-set_same, get_or-set_other}
use Rattle.std.specs.Prelude.{Some, None, Ok}
use Rattle.std.specs.declared.option.Option.{Option}
use Rattle.limits.specs.Limits.{stack_limit, nest_limit}
use Rattle.leb128.specs.Bytes.{bytes}
use Rattle.opcode.specs.Kind.{Kind}
use Rattle.opcode.specs.Table.{Code}
use Rattle.opcode.specs.Entry.{group_in}
use Rattle.instr.specs.declared.Instr.{Instr}
use Rattle.instr.specs.declared.Scanned.{Scanned}
use Rattle.instr.specs.Decode.{decode_at, decode_in}
use Rattle.instr.specs.Scan.{scan_of}
use Rattle.card.specs.Card.{DONE}
use Rattle.rules.specs.Header.{Header, header_bytes, locals}
use Rattle.rules.specs.Typing.{Frame, Types, ordinary, branches, may_branch, opens_block, opens_loop, closes, block_opens, loop_opens, br_branches, if_branches}
use Rattle.rules.specs.Strip.{Reads, Reaches, front, past, Valid}
use Rattle.rules.specs.Around.{Around, around_none, begun, ended, same}
use Rattle.rules.proofs.Typings.{end-untyped, control-untyped}
use Rattle.rules.proofs.Sorts.{opens-control, opens-branches, branches-plain, typed-inner}
use Rattle.rules.proofs.Headers.{declares-once}
use Rattle.rules.proofs.Onward.{declared, reads-once, reached-beyond}
use Rattle.checker.specs.declared.turns.State.{State}
use Rattle.checker.specs.Walk.{Framed, outset}
use Rattle.checker.specs.Inner.Judging.{Judges, Faces}
use Rattle.checker.specs.Inner.Going.{Begins, Going}
use Rattle.checker.specs.Inner.Coming.{Noted, Coming, Stood}
use Rattle.checker.proofs.Nests.{nested-many}
use Rattle.checker.proofs.Goings.{first-going, gone-on, coded, is-end, stepped}
use Rattle.checker.proofs.Ahead.{Ahead, stops, goes, ahead, reached-inside}

-- ---- one instruction

noted-keeps : (bodies bs : List ℕ) (at v : ℕ) → length bs ≤ at → Noted bodies bs → Noted (set bodies at v) bs
noted-keeps bodies [] at v l d = tt
noted-keeps bodies (b ∷ bs) at v l d =
    (get_or-set_other bodies at (length bs) v 0 (λ z. omega (arith, z, l)) ∙ d.0, noted-keeps bodies bs at v (omega arith) d.1)

-- the blocks around the next place: one more, which begins there; or those that were, or all of them but the innermost
data After (s : List ℕ) (h : Header) (q : ℕ) (bs : List ℕ) (fs : List Frame) : Type 0 where
  inside : Around s h q (q ∷ bs) → length fs ≡ suc (suc (length bs)) → After s h q bs fs
  outside : {cs : List ℕ} → Around s h q cs → length fs ≡ suc (length cs) → length cs ≤ length bs
      → ((bodies : List ℕ) → Noted bodies bs → Noted bodies cs) → After s h q bs fs

around-next : {s : List ℕ} {h : Header} {p n : ℕ} {bs : List ℕ} {i : Instr} {c : Code} {fs fs' : List Frame} → Around s h p bs → length fs ≡ suc (length bs)
    → Reads h.version s p i c n → Types (locals h) i c fs fs' → After s h (p + n) bs fs'
around-next a l r (ordinary t x) = outside (same a r (λ o. control-untyped t (opens-control o).1) (end-untyped t)) l (omega arith) (λ m d. d)
around-next a l r (branches t x) = outside (same a r (λ o. opens-branches o br_branches refl) (branches-plain br_branches)) l (omega arith) (λ m d. d)
around-next a l r (may_branch t x) = outside (same a r (λ o. opens-branches o if_branches refl) (branches-plain if_branches)) l (omega arith) (λ m d. d)
around-next a l r opens_block = inside (begun a r block_opens) (ap suc l)
around-next a l r opens_loop = inside (begun a r loop_opens) (ap suc l)
around-next {bs = []} a l r (closes x) = absurd (let z : ⊥ = omega arith in z)
around-next {bs = b ∷ bs} a l r (closes x) = outside (ended a r) (omega arith) (omega arith) (λ m d. d.1)

module _ {s : List ℕ} {v n takes : ℕ} {kinds blocks bodies : List ℕ} {depth nest floor : ℕ} {dead : Bool} {at : ℕ}
    (w : Coming s v n takes kinds blocks bodies depth nest floor dead at) where
  abbrev h : Header
  h = w.going.header

  module _ {i : Instr} {c : Code} {len : ℕ} {fs' : List Frame} {kinds' blocks' : List ℕ} {depth' nest' floor' : ℕ} {dead' : Bool}
      (r : Reads h.version s at i c len) (t : Types (locals h) i c w.going.frames fs')
      (f : Framed h.results kinds' blocks' depth' nest' floor' dead' fs') (lk : length kinds' ≡ stack_limit) (lb : length blocks' ≡ nest_limit) where
    next : After s h (at + len) w.begun fs'
    next = around-next w.around (nested-many w.going.framed.nested ∙ ap suc (sym w.many)) r t

    -- into a block
    comes-in : nest < nest' → Coming s v n takes kinds' blocks' (set bodies nest (at + len)) depth' nest' floor' dead' (at + len)
    comes-in more = by next
      where
        by : After s h (at + len) w.begun fs' → Coming s v n takes kinds' blocks' (set bodies nest (at + len)) depth' nest' floor' dead' (at + len)
        by (inside a l) =
            let room : nest < length bodies = omega (arith, w.bodies_long, nested-many f.nested, f.within.blocks, more) in
            record {
              going = gone-on w.going r t f lk lb;
              begun = (at + len) ∷ w.begun;
              around = a;
              many = omega (arith, l, nested-many f.nested);
              noted = (
                ap (λ (j : ℕ). get_or (set bodies nest (at + len)) j 0) w.many ∙ get_or-set_same bodies nest (at + len) 0 room,
                noted-keeps bodies w.begun nest (at + len) (omega (arith, w.many)) w.noted,
              );
              bodies_long = length-set bodies nest (at + len) ∙ w.bodies_long;
            }
        by (outside a l less d) = absurd (let z : ⊥ = omega (arith, l, less, more, w.many, nested-many f.nested) in z)

    -- into none
    comes-on : nest' ≤ nest → Coming s v n takes kinds' blocks' bodies depth' nest' floor' dead' (at + len)
    comes-on most = by next
      where
        by : After s h (at + len) w.begun fs' → Coming s v n takes kinds' blocks' bodies depth' nest' floor' dead' (at + len)
        by (inside a l) = absurd (let z : ⊥ = omega (arith, l, most, w.many, nested-many f.nested) in z)
        by (outside {cs} a l less d) =
            record {
              going = gone-on w.going r t f lk lb;
              begun = cs;
              around = a;
              many = omega (arith, l, nested-many f.nested);
              noted = d bodies w.noted;
              bodies_long = w.bodies_long;
            }

-- ---- toward a place

-- what is known at the place, if the walk stood there; if not, the place is not reached before this one
pub record Toward (s : List ℕ) (v n takes place least : ℕ) (kinds blocks bodies : List ℕ) (state : State) (at : ℕ) (held words begun : List ℕ) (there : Option State) : Type 0 where
  pub coming : Coming s v n takes kinds blocks bodies state.depth state.nest state.floor state.dead at
  pub known : (st : State) → there ≡ Some st → Coming s v n takes held words begun st.depth st.nest st.floor st.dead place
  pub not-before : there ≡ None → (h : Header) (fs : List Frame) → Reaches s h place fs → least ≤ place

after-header : {s : List ℕ} {h : Header} {p : ℕ} {fs : List Frame} → Reaches s h p fs → length (header_bytes h) ≤ p
after-header (front d) = omega arith
after-header (past r q t w) = omega (arith, after-header r)

pub toward-first : {s : List ℕ} {v n takes start : ℕ} (place : ℕ) (kinds blocks bodies held words starts : List ℕ) → length kinds ≡ stack_limit
    → length blocks ≡ nest_limit → length bodies ≡ nest_limit → Begins s v n takes start → {o : State} → o ≡ outset
    → Toward s v n takes place start kinds blocks bodies o start held words starts None
toward-first {s} {v} {n} {takes} {start} place kinds blocks bodies held words starts lk lb ld b e =
    subst (λ (x : State). Toward s v n takes place start kinds blocks bodies x start held words starts None) (sym e)
    (record {
      coming =
          record {
            going = first-going kinds blocks lk lb b;
            begun = [];
            around = subst (λ (x : ℕ). Around s b.header x []) b.start_is (around_none b.setting.declares);
            many = refl;
            noted = tt;
            bodies_long = ld;
          };
      known = λ st x. absurd (let z : ◌≡◌ {A = ℕ} 0 1 = cc in omega arith);
      not-before = λ x h fs r.
          let one : h ≡ b.header = declares-once s h b.header (declared r) b.setting.declares in
          omega (arith, after-header r, ap (λ (x : Header). length (header_bytes x)) one, b.start_is);
    })

-- the walk stands at the place now, or not yet, or no more
module _ {s : List ℕ} {v n takes place : ℕ} {kinds blocks bodies : List ℕ} {state : State} {at : ℕ} {held words begun : List ℕ} {there : Option State}
    (w : Toward s v n takes place at kinds blocks bodies state at held words begun there) where
  abbrev Now : Bool → Type 0
  Now b = Toward s v n takes place (suc at) kinds blocks bodies state at (cond b kinds held) (cond b blocks words) (cond b bodies begun) (cond b (Some state) there)

  now : (b : Bool) → eqb at place ≡ b → Now b
  now true e =
      record {
        coming = w.coming;
        known = λ st x.
            let same : state ≡ st = cc in
            subst (λ (y : State). Coming s v n takes kinds blocks bodies y.depth y.nest y.floor y.dead place) same
            (subst (Coming s v n takes kinds blocks bodies state.depth state.nest state.floor state.dead) (eqb-true at place e) w.coming);
        not-before = λ z. absurd (let no : ◌≡◌ {A = ℕ} 0 1 = cc in omega arith);
      }
  now false e =
      record {
        coming = w.coming;
        known = w.known;
        not-before = λ z h fs r. ⊎_elim (λ x. absurd (eqb-false at place e x)) (λ l. l) (eq-or-lt_of_le (w.not-before z h fs r));
      }

  pub noted-now : {held' words' begun' : List ℕ} {there' : Option State}
      → (held' ≡ cond (eqb at place) kinds held) × (words' ≡ cond (eqb at place) blocks words) × (begun' ≡ cond (eqb at place) bodies begun)
      × (there' ≡ cond (eqb at place) (Some state) there)
      → Toward s v n takes place (suc at) kinds blocks bodies state at held' words' begun' there'
  noted-now {held'} {words'} {begun'} {there'} e =
      let here : Bool = eqb at place in
      subst (λ (x : List ℕ). Toward s v n takes place (suc at) kinds blocks bodies state at x words' begun' there') (sym e.0)
      (subst (λ (x : List ℕ). Toward s v n takes place (suc at) kinds blocks bodies state at (cond here kinds held) x begun' there') (sym e.1)
      (subst (λ (x : List ℕ). Toward s v n takes place (suc at) kinds blocks bodies state at (cond here kinds held) (cond here blocks words) x there') (sym e.2)
      (subst (Toward s v n takes place (suc at) kinds blocks bodies state at (cond here kinds held) (cond here blocks words) (cond here bodies begun)) (sym e.3) (now here refl))))

module _ {s : List ℕ} {v n takes place : ℕ} {kinds blocks bodies : List ℕ} {state : State} {at : ℕ} {held words begun : List ℕ} {there : Option State}
    (w : Toward s v n takes place (suc at) kinds blocks bodies state at held words begun there) where
  abbrev going : Going s v n takes kinds blocks state.depth state.nest state.floor state.dead at
  going = w.coming.going

  -- an instruction that is read before the place ends before it
  passes-by : {i : Instr} {c : Code} {len : ℕ} → Reads going.header.version s at i c len → there ≡ None → (h : Header) (fs : List Frame)
      → Reaches s h place fs → at + len ≤ place
  passes-by r z h fs x =
      let one : h ≡ going.header = declares-once s h going.header (declared x) going.setting.declares in
      reached-beyond going.reached r (subst (λ (y : Header). Reaches s y place fs) one x) (w.not-before z h fs x)

  -- and the strip's own `end` is the last
  module _ (d : Scanned) (is : d ≡ scan_of (decode_in v s at)) (b : bytes s) (z : d.code ≡ DONE) (e : (eqb state.nest 0 && eqb (group_in d.entry) 0) ≡ true) where
    ends-file : (k : Valid s) → at + d.len ≡ length s
    ends-file k = by (ahead k reached)
      where
        reached : Reaches s k.header at going.frames
        reached =
            subst (λ (x : Header). Reaches s x at going.frames) (declares-once s going.header k.header going.setting.declares (declared k.reached))
            going.reached

        its : Reads k.header.version s at (decode_at going.header.version s at).instr (coded going d is b z).0 d.len
        its =
            subst (λ (x : Header). Reads x.version s at (decode_at going.header.version s at).instr (coded going d is b z).0 d.len)
            (declares-once s going.header k.header going.setting.declares (declared k.reached)) (coded going d is b z).1

        by : Ahead s k.header at going.frames → at + d.len ≡ length s
        by (stops r one q) = ap (λ (n : ℕ). at + n) (reads-once its r).2 ∙ q
        by (goes r u l) =
            let it = is-end going d is b z e in
            absurd (typed-inner u ((reads-once r its).1 ∙ it.1) (omega (arith, nested-many going.framed.nested, it.0)))

    pub ended-there : Stood s v n takes place held words begun there
    ended-there =
        record {
          known = w.known;
          nowhere = λ x k fs r.
              let inside : place < length s = reached-inside k r in
              let past : at + d.len ≤ place = passes-by (coded going d is b z).1 x k.header fs r in
              omega (arith, ends-file k);
        }

  -- and another is passed
  module _ (d : Scanned) (is : d ≡ scan_of (decode_in v s at)) (b : bytes s) (z : d.code ≡ DONE) (other : (eqb state.nest 0 && eqb (group_in d.entry) 0) ≡ false)
      {kinds' blocks' : List ℕ} {state' : State}
      (j : (c : Code) (i : Instr) (ls rs : List Kind) (fs : List Frame)
      → Faces s n takes d.entry d.immediate kinds blocks state.depth state.nest state.floor state.dead c i ls rs fs
      → Judges ls rs i c fs kinds' blocks' (Ok state')) where
    pub room_in : state.nest < state'.nest → state.nest < nest_limit
    room_in more = let g = stepped going d is b z other j in omega (arith, nested-many g.2.nested, g.2.within.blocks, more)

    onward : {bodies' : List ℕ} → Coming s v n takes kinds' blocks' bodies' state'.depth state'.nest state'.floor state'.dead (at + d.len)
        → Toward s v n takes place (at + d.len) kinds' blocks' bodies' state' (at + d.len) held words begun there
    onward c = record { coming = c; known = w.known; not-before = passes-by (coded going d is b z).1 }

    pub toward-in : state.nest < state'.nest → length blocks' ≡ nest_limit → length kinds' ≡ stack_limit
        → Toward s v n takes place (at + d.len) kinds' blocks' (set bodies state.nest (at + d.len)) state' (at + d.len) held words begun there
    toward-in more lb lk = let g = stepped going d is b z other j in onward (comes-in w.coming (coded going d is b z).1 g.1 g.2 lk lb more)

    pub toward-on : state'.nest ≤ state.nest → length blocks' ≡ nest_limit → length kinds' ≡ stack_limit
        → Toward s v n takes place (at + d.len) kinds' blocks' bodies state' (at + d.len) held words begun there
    toward-on most lb lk = let g = stepped going d is b z other j in onward (comes-on w.coming (coded going d is b z).1 g.1 g.2 lk lb most)
