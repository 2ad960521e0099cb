-- Labels in a flat stack: what is under them, and the three numbers of each.
use Prim.Native.Nat.{ℕ, zero, suc, ◌+◌, ◌*◌, ◌≤◌, ◌<◌}
use mathlib.Core.Path.{◌≡◌, refl, ap, ap₂, sym, ◌∙◌, subst}
use mathlib.Core.Bool.{Bool, true, false, cond}
use mathlib.Core.List.{List, [], ◌∷◌, ◌++◌, reverse, reverse-cons, append_assoc}
use native.Mathlib.Omega.{arith}
use lib.ListN.{length, set, take, drop, length-append, length-set}
use lib.Seq.{take-add, drop-drop, get_or-set_same, get_or-set_other, lt-length-set}
use Rattle.limits.specs.Limits.{slot, nest_limit}
use Rattle.machine.specs.Value.{Value, AllInRange, all_bytes}
use Rattle.machine.specs.Memory.{part}
use Rattle.machine.specs.Exec.{State}
use Rattle.machine.specs.Inner.Rep.{Rep, Slots}
use Rattle.machine.proofs.Laws.Rep.{rep-pop}
use Rattle.rules.specs.Header.{Header}
use Rattle.rules.specs.Typing.{Frame, opened}
use Rattle.rules.specs.Strip.{Reaches}
use Rattle.rules.proofs.Onward.{reached-within}
use Rattle.standard.specs.Standard.{Label, Config, Stage, halted, with_stack, count_under, jump, branch, under_all}
use Rattle.standard.specs.Safety.{Nested, outermost, inside, Safe}
use Rattle.standard.proofs.Nestings.{nested-many}
use Rattle.standard.proofs.Never.{safe-unhalted}
use Rattle.run.specs.Inner.Carried.{way_of, Marked, open_in, Led, leads_on, leads_out}
use Rattle.run.proofs.Results.{all_append, all_one}

-- ---- values under others

pub slots-under : (vs ws : List Value) (bs : List ℕ) → Slots (vs ++ ws) bs → Slots ws bs
slots-under [] ws bs s = s
slots-under (v ∷ vs) ws bs s = slots-under vs ws bs s.1

pub range-under : (vs ws : List Value) → AllInRange (vs ++ ws) → AllInRange ws
range-under [] ws r = r
range-under (v ∷ vs) ws r = range-under vs ws r.1

pub count_under_lem : (ls : List Label) → count_under ls ≡ length (under_all ls)
count_under_lem [] = refl
count_under_lem (l ∷ ls) = omega (arith, count_under_lem ls, length-append l.under (under_all ls))

-- only those under are left
pub rep-under : (σ : State) {st : List ℕ} {d : ℕ} {locals mem : List ℕ} (vs ws : List Value) → Rep (with_stack σ (vs ++ ws)) st d locals mem → {d' : ℕ}
    → d' ≡ length ws
    → Rep (with_stack σ ws) st d' locals mem
rep-under σ {st} vs ws rep {d'} e =
    rep-pop rep ws (slots-under vs ws st rep.slots) (range-under vs ws rep.stack_range) d' e (omega (arith, rep.depth, rep.deep, length-append vs ws, e))

pub rep-same : (σ : State) {st : List ℕ} {d : ℕ} {locals mem : List ℕ} {vs ws : List Value} → vs ≡ ws → Rep (with_stack σ vs) st d locals mem
    → Rep (with_stack σ ws) st d locals mem
rep-same σ {st} {d} {locals} {mem} e rep = subst (λ (x : List Value). Rep (with_stack σ x) st d locals mem) e rep

-- the bytes of the values on top of others, the lowest first
pub part_bytes : (vs ws : List Value) (bs : List ℕ) → Slots (vs ++ ws) bs → part (slot * length vs) (slot * length ws) bs ≡ all_bytes (reverse vs)
unfolding all_bytes
part_bytes [] ws bs h = refl
part_bytes (v ∷ vs) ws bs h =
    let more : slot * suc (length vs) ≡ slot * length vs + slot = omega arith in
    let here : slot * length ws + slot * length vs ≡ slot * length (vs ++ ws) = omega (arith, length-append vs ws) in
    ap (λ (n : ℕ). take n (drop (slot * length ws) bs)) more ∙ take-add (slot * length vs) slot (drop (slot * length ws) bs)
    ∙ ap₂ (λ (x y : List ℕ). x ++ y) (part_bytes vs ws bs h.1)
    (ap (take slot) (drop-drop (slot * length vs) (slot * length ws) bs ∙ ap (λ (n : ℕ). drop n bs) here) ∙ h.0 ∙ sym (all_one v))
    ∙ sym (all_append (reverse vs) (v ∷ [])) ∙ ap all_bytes (sym (reverse-cons v vs))

-- ---- their numbers

-- a number from here on is none of theirs
pub marked-kept : (ls : List Label) (ms : List ℕ) (j x : ℕ) → 3 * length ls ≤ j → Marked ls ms → Marked ls (set ms j x)
marked-kept [] ms j x h m = tt
marked-kept (l ∷ ls) ms j x h m = (
  get_or-set_other ms j (3 * length ls) x 0 (λ e. omega arith) ∙ m.0,
  get_or-set_other ms j (3 * length ls + 1) x 0 (λ e. omega arith) ∙ m.1,
  get_or-set_other ms j (3 * length ls + 2) x 0 (λ e. omega arith) ∙ m.2,
  m.3,
  marked-kept ls ms j x (omega arith) m.4,
)

-- one more
pub marked_more : (l : Label) (ls : List Label) (ms : List ℕ) (n height way body : ℕ) → n ≡ length ls → n < nest_limit → length ms ≡ 3 * nest_limit + 1
    → height ≡ count_under (l ∷ ls) → way ≡ way_of l → body ≡ l.body → length l.results ≤ 1 → Marked ls ms
    → Marked (l ∷ ls) (set (set (set ms (3 * n) height) (3 * n + 1) way) (3 * n + 2) body)
marked_more l ls ms n height way body e few long a b c d m =
    subst (λ (k : ℕ). Marked (l ∷ ls) (set (set (set ms (3 * k) height) (3 * k + 1) way) (3 * k + 2) body)) (sym e) (
      get_or-set_other (set (set ms (3 * length ls) height) (3 * length ls + 1) way) (3 * length ls + 2) (3 * length ls) body 0 (λ e. omega arith)
          ∙ get_or-set_other (set ms (3 * length ls) height) (3 * length ls + 1) (3 * length ls) way 0 (λ e. omega arith)
          ∙ get_or-set_same ms (3 * length ls) height 0 (omega (arith, few, long, e)) ∙ a,
      get_or-set_other (set (set ms (3 * length ls) height) (3 * length ls + 1) way) (3 * length ls + 2) (3 * length ls + 1) body 0 (λ e. omega arith)
          ∙ get_or-set_same (set ms (3 * length ls) height) (3 * length ls + 1) way 0 (lt-length-set ms (3 * length ls) height (omega (arith, few, long, e))) ∙ b,
      get_or-set_same (set (set ms (3 * length ls) height) (3 * length ls + 1) way) (3 * length ls + 2) body 0
          (lt-length-set (set ms (3 * length ls) height) (3 * length ls + 1) way (lt-length-set ms (3 * length ls) height (omega (arith, few, long, e)))) ∙ c,
      d,
      marked-kept ls (set (set ms (3 * length ls) height) (3 * length ls + 1) way) (3 * length ls + 2) body (omega arith)
          (marked-kept ls (set ms (3 * length ls) height) (3 * length ls + 1) way (omega arith) (marked-kept ls ms (3 * length ls) height (omega arith) m)),
    )

-- ---- what is not stuck

pub unhalted : {s : List ℕ} {h : Header} {b : Config} (t : Bool) {g : Stage} → Safe s h b (cond t g halted) → cond t g halted ≡ g
unhalted true safe = refl
unhalted false safe = absurd (safe-unhalted safe refl)

pub unhalted-if : {s : List ℕ} {h : Header} {b : Config} (t : Bool) (g : Stage) → Safe s h b (cond t g halted) → t ≡ true
unhalted-if true g safe = refl
unhalted-if false g safe = absurd (safe-unhalted safe refl)

module _ (s : List ℕ) (h : Header) where
  -- at most so many blocks are open
  pub nested-few : {fs : List Frame} {ls : List Label} → Nested s h fs ls → length ls ≤ nest_limit
  nested-few (outermost a b) = omega arith
  nested-few (inside a b c d e n) = omega (arith, (reached-within e).blocks, nested-many n)

  module _ (σ : State) where
    -- a branch has a target
    pub targets : (x : ℕ) (ls : List Label) {b : Config} → Safe s h b (branch s h σ x ls) → x ≤ length ls
    targets zero [] safe = omega arith
    targets (suc x) [] safe = absurd (safe-unhalted safe refl)
    targets zero (l ∷ ls) safe = omega arith
    targets (suc x) (l ∷ ls) safe = let n = targets x ls safe in omega (arith, n)

    -- the label, and what is between
    pub record Target (x : ℕ) (ls : List Label) (ms : List ℕ) : Type 0 where
      pub label : Label
      pub rest : List Label
      pub between : List Value
      pub under : under_all ls ≡ between ++ under_all (label ∷ rest)
      pub many : length ls ≡ suc (length rest + x)
      pub marked : Marked (label ∷ rest) ms
      pub jumps : branch s h σ x ls ≡ jump s h σ label rest
      pub frame : Frame
      pub around : Frame
      pub outer : List Frame
      pub reached : Reaches s h label.body (opened frame.loop frame.results ∷ around ∷ outer)
      pub frames : length (around ∷ outer) ≡ suc (length rest)

    pub target : (x : ℕ) (ls : List Label) {fs : List Frame} {ms : List ℕ} → x < length ls → Nested s h fs ls → Marked ls ms → Target x ls ms
    target x [] l n m = absurd (let z : ⊥ = omega arith in z)
    target zero (l ∷ ls) few (inside {f = f} {g = g} {fs = fs} a b c d e n) m =
        record {
          label = l;
          rest = ls;
          between = [];
          under = refl;
          many = omega arith;
          marked = m;
          jumps = refl;
          frame = f;
          around = g;
          outer = fs;
          reached = e;
          frames = nested-many n;
        }
    target (suc x) (l ∷ ls) few (inside a b c d e n) m =
        let t = target x ls (omega arith) n m.4 in
        record {
          label = t.label;
          rest = t.rest;
          between = l.under ++ t.between;
          under = ap (λ (vs : List Value). l.under ++ vs) t.under ∙ sym (append_assoc l.under t.between (under_all (t.label ∷ t.rest)));
          many = omega (arith, t.many);
          marked = t.marked;
          jumps = t.jumps;
          frame = t.frame;
          around = t.around;
          outer = t.outer;
          reached = t.reached;
          frames = t.frames;
        }

-- the number of blocks changes with what is open
pub recounted : {s : List ℕ} {h : Header} {g : Stage} {at depth n : ℕ} {stack marks marks' locals mem : List ℕ} → marks' ≡ set marks (3 * nest_limit) n
    → Led s h g at depth n stack marks locals mem → Led s h g at depth (open_in marks') stack marks' locals mem
recounted {marks = marks} {marks'} e (leads_out f z many few long bytes) = leads_out f z many few long bytes
recounted {s} {h} {n = n} {marks = marks} {marks'} e (leads_on {d} f C) =
    let few : length d.labels ≤ nest_limit = nested-few s h C.sound.fits.nested in
    leads_on f
    (record {
      place = C.place;
      sound = C.sound;
      rep = C.rep;
      many = C.many ∙ sym (ap open_in e ∙ get_or-set_same marks (3 * nest_limit) n 0 (omega (arith, C.marks_long)));
      marked = subst (Marked d.labels) (sym e) (marked-kept d.labels marks (3 * nest_limit) n (omega (arith, few)) C.marked);
      marks_long = ap length e ∙ length-set marks (3 * nest_limit) n ∙ C.marks_long;
    })
