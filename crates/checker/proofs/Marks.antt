-- What a survey tells of the open blocks, from the innermost outward.
use Prim.Native.Nat.{ℕ, suc, ◌+◌, ◌-◌, ◌*◌, ◌≤◌, ◌<◌}
use mathlib.Core.Path.{◌≡◌, refl, sym, ap, ap₂, subst, ◌∙◌}
use mathlib.Core.Bool.{Bool, true, false, cond}
use mathlib.Core.List.{List, [], ◌∷◌, ◌++◌, append_assoc}
use native.Mathlib.Omega.{arith}
use borrow.Author.Tests.{eq-eqb, ne_eqb}
use lib.Dec.{eqb}
use lib.ListN.{length, get_or, set, take, drop, length-append, length-set}
use lib.Seq.{length-take-le, take-suc, drop-cons, drop-set-lt, get_or-set_same}
use Rattle.limits.specs.Limits.{nest_limit}
use Rattle.opcode.specs.Kind.{Kind}
use Rattle.opcode.specs.BlockType.{is_block_type, block_results}
use Rattle.rules.specs.Typing.{Frame, all_values, Live}
use Rattle.checker.specs.Walk.{word, OpenBlocks, strip, block}
use Rattle.checker.specs.Survey.{LOOP, way, marks_of, fronted}
use Rattle.checker.specs.Inner.Blocks.{top_first}
use Rattle.checker.specs.Inner.Coming.{Noted, TellsDead}
use Rattle.checker.proofs.Words.{type-small, type-many}
use Rattle.checker.proofs.Nests.{nested-many, Closing, closing}

-- ---- one block

pub way-loop : {loop : Bool} (rs : List Kind) → loop ≡ true → LOOP ≡ way loop rs
way-loop rs e = sym (ap (λ (b : Bool). cond b LOOP (length rs)) e)

module _ {loop : Bool} (type : ℕ) (is : is_block_type type ≡ true) (e : loop ≡ false) {r : ℕ} (told : r ≡ top_first (block_results type)) where
  way_block : way loop (block_results type) ≡ cond (eqb r 0) 0 1
  way_block = ap (λ (b : Bool). cond b LOOP (length (block_results type))) e ∙ type-many type is ∙ ap (λ (x : ℕ). cond (eqb x 0) 0 1) (sym told)

  pub way-none : r ≡ 0 → 0 ≡ way loop (block_results type)
  way-none z = sym (way_block ∙ ap (λ (b : Bool). cond b 0 1) (eq-eqb r 0 z))

  pub way-one : (r ≡ 0 → ⊥) → 1 ≡ way loop (block_results type)
  way-one f = sym (way_block ∙ ap (λ (b : Bool). cond b 0 1) (ne_eqb r 0 f))

-- ---- whether code is dead

-- what a word says of it
abbrev DeadIn : ℕ → Bool → Type 0
DeadIn w r = (floor type : ℕ) (loop dead : Bool) → type < 256 → w ≡ word floor type loop dead → r ≡ dead

-- the frames from the k-th block outward; all inner ones are live
pub record Outward (rs : List Kind) (blocks : List ℕ) (k : ℕ) (fs : List Frame) : Type 0 where
  floor : ℕ
  frames : List Frame
  nested : OpenBlocks rs blocks k floor false frames
  gives : Live frames → Live fs
  needs : Live fs → Live frames

pub outward : {rs : List Kind} {blocks : List ℕ} {nest floor : ℕ} {dead : Bool} {fs : List Frame} → dead ≡ false → OpenBlocks rs blocks nest floor dead fs
    → Outward rs blocks nest fs
outward {rs} {blocks} {nest} {floor} {fs = fs} e n =
    record {
      floor = floor;
      frames = fs;
      nested = subst (λ (x : Bool). OpenBlocks rs blocks nest floor x fs) e n;
      gives = λ x. x;
      needs = λ x. x;
    }

-- the innermost is dead
pub dead-inner : {rs : List Kind} {blocks : List ℕ} {nest floor : ℕ} {dead : Bool} {fs : List Frame} → dead ≡ true → OpenBlocks rs blocks nest floor dead fs → Live fs → ⊥
dead-inner e (strip {f} l r) x = let z : ◌≡◌ {A = ℕ} 0 1 = cc (e, x.0) in omega arith
dead-inner e (block t {f = f} n w y r) x = let z : ◌≡◌ {A = ℕ} 0 1 = cc (e, x.0) in omega arith

module _ {rs : List Kind} {blocks : List ℕ} {k : ℕ} {fs : List Frame} (o : Outward rs blocks k fs) where
  pub all_live : k ≡ 0 → Live fs
  all_live z = o.gives (by o.nested z refl)
    where
      by : {n l : ℕ} {d : Bool} {gs : List Frame} → OpenBlocks rs blocks n l d gs → n ≡ 0 → d ≡ false → Live gs
      by (strip l r) e live = (live, tt)
      by (block t n w y r) e live = absurd (let never : ⊥ = omega arith in never)

  module _ (some : 0 < k) {r : Bool} (told : DeadIn (get_or blocks (k - 1) 0) r) where
    here : Closing rs blocks k o.floor false o.frames
    here = closing o.nested some

    is-dead : r ≡ here.outer-dead
    is-dead =
        told here.outer-floor here.type here.top.loop here.outer-dead (type-small here.type here.is-type)
        here.word-is

    as-live : Live o.frames → Live (here.top ∷ here.next ∷ here.rest)
    as-live = subst Live here.frames

    pub one-dead : r ≡ true → Live fs → ⊥
    one-dead e x = dead-inner (sym is-dead ∙ e) here.around (as-live (o.needs x)).1

    pub one-outward : r ≡ false → Outward rs blocks (k - 1) fs
    one-outward e =
        record {
          floor = here.outer-floor;
          frames = here.next ∷ here.rest;
          nested = subst (λ (x : Bool). OpenBlocks rs blocks (k - 1) here.outer-floor x (here.next ∷ here.rest)) (sym is-dead ∙ e) here.around;
          gives = λ x. o.gives (subst Live (sym here.frames) (here.dead_is, x));
          needs = λ x. (as-live (o.needs x)).1;
        }

pub tells-live : {fs : List Frame} {r : Bool} → r ≡ false → Live fs → TellsDead fs r
tells-live e x = record { dead = λ z. absurd (let n : ◌≡◌ {A = ℕ} 0 1 = cc (e, z) in omega arith); live = λ z. x }

pub tells-dead : {fs : List Frame} {r : Bool} → r ≡ true → (Live fs → ⊥) → TellsDead fs r
tells-dead e f = record { dead = λ z. f; live = λ z. absurd (let n : ◌≡◌ {A = ℕ} 0 1 = cc (e, z) in omega arith) }

-- ---- what is written

pub fronted-one : (xs : List ℕ) (x : ℕ) (old : List ℕ) (i : ℕ) → length xs ≡ i → i < length old → fronted (xs ++ x ∷ []) old ≡ fronted xs (set old i x)
fronted-one xs x old i e l =
    let long : i < length (set old i x) = omega (arith, l, lengths) in
    let after : drop i (set old i x) ≡ x ∷ drop (suc i) old =
    drop-cons (set old i x) i 0 long ∙ ap₂ (λ (a : ℕ) (r : List ℕ). a ∷ r) (get_or-set_same old i x 0 l) (drop-set-lt (suc i) old i x (omega arith)) in
    let many : length (xs ++ x ∷ []) ≡ suc i = omega (arith, length-append xs (x ∷ []), e) in
    append_assoc xs (x ∷ []) (drop (length (xs ++ x ∷ [])) old) ∙ ap (λ (n : ℕ). xs ++ x ∷ drop n old) many ∙ sym (ap (λ (r : List ℕ). xs ++ r) after)
    ∙ ap (λ (n : ℕ). xs ++ drop n (set old i x)) (sym e)
  where
    lengths : length (set old i x) ≡ length old
    lengths = length-set old i x

pub all_kinds : {k : ℕ} (from kinds : List ℕ) → k ≡ 0 → kinds ≡ fronted (take k from) kinds
all_kinds from kinds e = sym (ap (λ (j : ℕ). fronted (take j from) kinds) e)

pub one-more-kind : (k : ℕ) (from kinds : List ℕ) → 0 < k → k ≤ length from → k ≤ length kinds
    → fronted (take (k - 1) from) (set kinds (k - 1) (get_or from (k - 1) 0)) ≡ fronted (take k from) kinds
one-more-kind k from kinds some l m =
    let same : suc (k - 1) ≡ k = omega (arith, some) in
    sym (ap (λ (j : ℕ). fronted (take j from) kinds) (sym same) ∙ ap (λ (l : List ℕ). fronted l kinds) (take-suc from (k - 1) 0 (omega (arith, some, l)))
    ∙ fronted-one (take (k - 1) from) (get_or from (k - 1) 0) kinds (k - 1) (length-take-le (k - 1) from (omega (arith, l))) (omega (arith, some, m)))

-- three, from the last on
fronted-three : (xs : List ℕ) (x y z : ℕ) (old : List ℕ) (i : ℕ) → length xs ≡ i → i + 2 < length old
    → fronted (xs ++ x ∷ y ∷ z ∷ []) old ≡ fronted xs (set (set (set old (i + 2) z) (i + 1) y) i x)
fronted-three xs x y z old i e l =
    let one : List ℕ = xs ++ x ∷ [] in
    let two : List ℕ = one ++ y ∷ [] in
    let many-one : length one ≡ i + 1 = omega (arith, length-append xs (x ∷ []), e) in
    let many-two : length two ≡ i + 2 = omega (arith, length-append one (y ∷ []), many-one) in
    let same : xs ++ x ∷ y ∷ z ∷ [] ≡ two ++ z ∷ [] =
    sym (append_assoc xs (x ∷ []) (y ∷ z ∷ [])) ∙ sym (append_assoc one (y ∷ []) (z ∷ [])) in
    ap (λ (l : List ℕ). fronted l old) same ∙ fronted-one two z old (i + 2) many-two l
    ∙ fronted-one one y (set old (i + 2) z) (i + 1) many-one (omega (arith, length-set old (i + 2) z))
    ∙ fronted-one xs x (set (set old (i + 2) z) (i + 1) y) i e (omega (arith, length-set old (i + 2) z, length-set (set old (i + 2) z) (i + 1) y))

-- ---- the marks

-- those of the frames from the k-th block outward are left to write
pub record Unmarked (rs : List Kind) (blocks bodies : List ℕ) (k height : ℕ) (marks whole : List ℕ) : Type 0 where
  dead : Bool
  frames : List Frame
  begun : List ℕ
  nested : OpenBlocks rs blocks k height dead frames
  many : length begun ≡ k
  noted : Noted bodies begun
  same : fronted (marks_of frames begun) marks ≡ whole

pub unmarked : {rs : List Kind} {blocks bodies : List ℕ} {nest floor : ℕ} {dead : Bool} {fs : List Frame} (bs marks : List ℕ) → OpenBlocks rs blocks nest floor dead fs
    → length bs ≡ nest → Noted bodies bs → Unmarked rs blocks bodies nest floor marks (fronted (marks_of fs bs) marks)
unmarked {dead = dead} {fs} bs marks n m d = record { dead = dead; frames = fs; begun = bs; nested = n; many = m; noted = d; same = refl }

pub marks-many : (fs : List Frame) (bs : List ℕ) → length fs ≡ suc (length bs) → length (marks_of fs bs) ≡ 3 * length bs
marks-many [] bs e = absurd (let z : ⊥ = omega arith in z)
marks-many (f ∷ fs) [] e = refl
marks-many (f ∷ fs) (b ∷ bs) e =
    omega (arith, marks-many fs bs (omega arith), length-append (marks_of fs bs) (length (all_values fs) ∷ way f.loop f.results ∷ b ∷ []))

-- what a word says of them
abbrev FloorIn : ℕ → ℕ → Type 0
FloorIn w r = (floor type : ℕ) (loop dead : Bool) → type < 256 → w ≡ word floor type loop dead → r ≡ floor

abbrev WayIn : ℕ → ℕ → Type 0
WayIn w r = (floor type : ℕ) (loop dead : Bool) → is_block_type type ≡ true → w ≡ word floor type loop dead → r ≡ way loop (block_results type)

module _ {rs : List Kind} {blocks bodies : List ℕ} {k height : ℕ} {marks whole : List ℕ} (u : Unmarked rs blocks bodies k height marks whole) where
  pub all-marked : k ≡ 0 → marks ≡ whole
  all-marked z = by u.nested u.begun z u.many ∙ u.same
    where
      by : {n l : ℕ} {d : Bool} {gs : List Frame} → OpenBlocks rs blocks n l d gs → (bs : List ℕ) → n ≡ 0 → length bs ≡ k → marks ≡ fronted (marks_of gs bs) marks
      by (strip l r) [] e m = refl
      by (strip l r) (b ∷ bs) e m = absurd (let never : ⊥ = omega (arith, z) in never)
      by (block t n w y r) bs e m = absurd (let never : ⊥ = omega arith in never)

  module _ (some : 0 < k) (most : k ≤ nest_limit) (long : length marks ≡ 3 * nest_limit + 1) {x y : ℕ} (way-told : WayIn (get_or blocks (k - 1) 0) x)
      (floor-told : FloorIn (get_or blocks (k - 1) 0) y) where
    here-closing : Closing rs blocks k height u.dead u.frames
    here-closing = closing u.nested some

    its-way : x ≡ way here-closing.top.loop here-closing.top.results
    its-way =
        let d = here-closing in
        way-told d.outer-floor d.type d.top.loop d.outer-dead d.is-type d.word-is
        ∙ ap (λ (rs : List Kind). way d.top.loop rs) (sym d.results_are)

    its-floor : y ≡ here-closing.outer-floor
    its-floor =
        let d = here-closing in
        floor-told d.outer-floor d.type d.top.loop d.outer-dead (type-small d.type d.is-type) d.word-is

    pub one-marked : Unmarked rs blocks bodies (k - 1) y (set (set (set marks (3 * (k - 1) + 2) (get_or bodies (k - 1) 0)) (3 * (k - 1) + 1) x) (3 * (k - 1)) height) whole
    one-marked = by u.begun u.many u.noted (ap (λ (gs : List Frame). fronted (marks_of gs u.begun) marks) (sym here-closing.frames) ∙ u.same)
      where
        by : (bs : List ℕ) → length bs ≡ k → Noted bodies bs
            → fronted (marks_of (here-closing.top ∷ here-closing.next ∷ here-closing.rest) bs) marks ≡ whole
            → Unmarked rs blocks bodies (k - 1) y (set (set (set marks (3 * (k - 1) + 2) (get_or bodies (k - 1) 0)) (3 * (k - 1) + 1) x) (3 * (k - 1)) height) whole
        by [] m d e = absurd (let never : ⊥ = omega (arith, m, some) in never)
        by (b ∷ bs) m d e =
            let c = here-closing in
            let many : length bs ≡ k - 1 = omega (arith, m) in
            let body : get_or bodies (k - 1) 0 ≡ b = ap (λ (j : ℕ). get_or bodies j 0) (sym many) ∙ d.0 in
            let three : height ∷ x ∷ get_or bodies (k - 1) 0 ∷ [] ≡ length (all_values (c.next ∷ c.rest)) ∷ way c.top.loop c.top.results ∷ b ∷ [] =
            ap₂ (λ (i : ℕ) (l : List ℕ). i ∷ l) (sym c.floor_is) (ap₂ (λ (i j : ℕ). i ∷ j ∷ []) its-way body) in
            record {
              dead = c.outer-dead;
              frames = c.next ∷ c.rest;
              begun = bs;
              nested = subst (λ (l : ℕ). OpenBlocks rs blocks (k - 1) l c.outer-dead (c.next ∷ c.rest)) (sym its-floor) c.around;
              many = many;
              noted = d.1;
              same =
                  sym (fronted-three (marks_of (c.next ∷ c.rest) bs) height x (get_or bodies (k - 1) 0) marks (3 * (k - 1))
                  (marks-many (c.next ∷ c.rest) bs (nested-many c.around ∙ ap suc (sym many)) ∙ ap (λ (j : ℕ). 3 * j) many)
                  (omega (arith, some, most, long)))
                  ∙ ap (λ (l : List ℕ). fronted (marks_of (c.next ∷ c.rest) bs ++ l) marks) three ∙ e;
            }
