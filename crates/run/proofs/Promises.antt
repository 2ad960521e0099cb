-- What 01 and 02 promise of every run and of every resume, whatever comes in. That a memory is bytes is what every lent one is.
use Prim.Native.Nat.{ℕ, suc, ◌≤◌, ◌<◌}
use mathlib.Core.Path.{◌≡◌, refl, ap, sym, ◌∙◌, subst}
use mathlib.Core.List.{List, ◌++◌}
use mathlib.Core.Logic.{inl, inr}
use mathlib.Core.Option.{Option, none, some}
use native.Mathlib.Omega.{arith}
use lib.ListN.{length, drop, length-append, length-drop}
use lib.Seq.{drop_at}
use Rattle.card.specs.Card.{DONE, LONG, LABEL, TRAP, BUDGET}
use Rattle.limits.specs.Limits.{file_limit}
use Rattle.image.specs.Image.{image_bytes}
use Rattle.leb128.specs.Bytes.{bytes}
use Rattle.machine.specs.Value.{Value}
use Rattle.rules.specs.Header.{Header}
use Rattle.rules.specs.Strip.{Valid}
use Rattle.rules.proofs.Onward.{declared}
use Rattle.rules.specs.Breach.{Breach, long, stub, unmarked, other_version, parameters, further, results, kind, kinds_short, short, block_type, opcode, float, number, lane, align, local, nest, label, operand, deep, result, trailing, breach}
use Rattle.checker.proofs.Exact as Exact
use Rattle.standard.specs.Standard.{Config, going, ended, step, runs}
use Rattle.standard.specs.Safety.{Sound, Placed, Safe, safe_going, safe_ended}
use Rattle.standard.proofs.Begin.{begin-sound}
use Rattle.standard.proofs.Never.{never_stuck}
use Rattle.standard.proofs.Along.{one_more}
use Rattle.standard.proofs.Placed.{begin-placed, runs-placed}
use Rattle.run.specs.Meter.{Left, picture_of, paused}
use Rattle.run.specs.Call.{Fails, Asks, breaks, fails, Calls, refused, metered}
use Rattle.run.specs.Run.{Slots, Roomy, run_asks, Begins}
use Rattle.run.specs.Resume.{Pictures, resume_asks}
use Rattle.run.specs.Told.{Told, told_done, told_trap, told_budget, OneOf, OnCard, run_codes, resume_codes, Called, turned_away, told, Orderly, Pauses}
use Rattle.run.proofs.Places.{reached-inside}
use Rattle.run.proofs.Metered.{metered-tells}
use Rattle.run.proofs.Picturing.{picture-long}

pub breach-range : {s : List ℕ} {c p : ℕ} → Breach s c p → (LONG ≤ c) × (c ≤ LABEL)
breach-range (long g) = (omega arith, omega arith)
breach-range (stub g) = (omega arith, omega arith)
breach-range (unmarked z f) = (omega arith, omega arith)
breach-range (other_version rest z e f) = (omega arith, omega arith)
breach-range (parameters v p rest z k e g) = (omega arith, omega arith)
breach-range (further v p l rest z k e a g) = (omega arith, omega arith)
breach-range (results v p l r rest z k e a b g) = (omega arith, omega arith)
breach-range (kind v p l r b ks rest z k e few m f) = (omega arith, omega arith)
breach-range (kinds_short v p l r ks z k e few m) = (omega arith, omega arith)
breach-range (short f) = (omega arith, omega arith)
breach-range (block_type f) = (omega arith, omega arith)
breach-range (opcode f) = (omega arith, omega arith)
breach-range (float f) = (omega arith, omega arith)
breach-range (number f) = (omega arith, omega arith)
breach-range (lane f) = (omega arith, omega arith)
breach-range (align f) = (omega arith, omega arith)
breach-range (local a names f) = (omega arith, omega arith)
breach-range (nest a o g) = (omega arith, omega arith)
breach-range (label a o g) = (omega arith, omega arith)
breach-range (operand a o d l f) = (omega arith, omega arith)
breach-range (deep a t g) = (omega arith, omega arith)
breach-range (result a f) = (omega arith, omega arith)
breach-range (trailing a e g) = (omega arith, omega arith)

-- ---- what is told of the standard's machine from a sound state

module _ {s : List ℕ} (v : Valid s) (b : Config) (sound : Sound s v.header b) (out : List ℕ) (img : Option (List ℕ)) (budget : ℕ) where
  abbrev h : Header
  h = v.header

  sound-at : (k : ℕ) {c : Config} → runs s h k b ≡ going c → Sound s h c × (length c.state.memory ≡ length b.state.memory)
  sound-at k {c} e = by (subst (Safe s h b) e (never_stuck v b sound k))
    where
      by : Safe s h b (going c) → Sound s h c × (length c.state.memory ≡ length b.state.memory)
      by (safe_going d l) = (d, l)

  ended-long : (k : ℕ) {c : Config} {ws : List Value} {m : List ℕ} → runs s h k b ≡ going c → step s h c ≡ ended ws m → length m ≡ length b.state.memory
  ended-long k {c} {ws} {m} e f = by (subst (Safe s h b) (one_more s h k b c e ∙ f) (never_stuck v b sound (suc k)))
    where
      by : Safe s h b (ended ws m) → length m ≡ length b.state.memory
      by (safe_ended j e sound t kinds range l) = l

  told-place : {x : Left} → Told s h b out img budget x → x.answer.place ≤ file_limit
  told-place (told_done k l e f g w) = omega arith
  told-place (told_trap k l e f g) = reached-inside (sound-at k e).0.reached
  told-place (told_budget e) = reached-inside (sound-at budget e).0.reached

  told-long : {x : Left} → Slots h.results out → Told s h b out img budget x
      → (length x.memory ≡ length b.state.memory) × (length x.results ≡ length out)
  told-long o (told_done k l e f g w) = (ended-long k e f, w ∙ sym o)
  told-long o (told_trap k l e f g) = ((sound-at k e).1, refl)
  told-long o (told_budget e) = ((sound-at budget e).1, refl)

module _ {s : List ℕ} {h : Header} {b : Config} {out : List ℕ} {img : Option (List ℕ)} {budget : ℕ} where
  told-steps : {x : Left} → Told s h b out img budget x → x.answer.steps ≤ budget
  told-steps (told_done k l e f g w) = l
  told-steps (told_trap k l e f g) = omega arith
  told-steps (told_budget e) = omega arith

  told-code : (codes : List ℕ) {x : Left} → Told s h b out img budget x → OnCard codes x.answer.code
  told-code codes (told_done k l e f g w) = inl (omega arith)
  told-code codes (told_trap k l e f g) = inr (inr (inl refl))
  told-code codes (told_budget e) = inr (inr (inr refl))

  told-results : {x : Left} → Told s h b out img budget x → (x.answer.code ≡ DONE → ⊥) → x.results ≡ out
  told-results (told_done k l e f g w) ne = absurd (ne refl)
  told-results (told_trap k l e f g) ne = refl
  told-results (told_budget e) ne = refl

  told-late : {x : Left} → Told s h b out img budget x → (x.answer.code ≡ DONE → ⊥) → TRAP ≤ x.answer.code
  told-late (told_done k l e f g w) ne = absurd (ne refl)
  told-late (told_trap k l e f g) ne = omega arith
  told-late (told_budget e) ne = omega arith

  told-image : {x : Left} → Told s h b out img budget x → (x.answer.code ≡ BUDGET → ⊥) → x.image ≡ img
  told-image (told_done k l e f g w) ne = refl
  told-image (told_trap k l e f g) ne = refl
  told-image (told_budget e) ne = absurd (ne refl)

-- ---- of every call

module _ {s mem out : List ℕ} {img : Option (List ℕ)} {budget : ℕ} {asks : Asks} {Starts : Header → Config → Type 0} {codes : List ℕ}
    (call : Orderly s mem out img asks Starts codes) where
  -- turned away with everything as it was, or the standard's machine
  pub call-told : {x : Left} → Calls s mem out img budget asks Starts x → Called s mem out img budget asks Starts x
  call-told (refused t) = turned_away t
  call-told (metered v c well e) = told v c well e (metered-tells v c out img budget (call.sound v c e).0)

  module _ {x : Left} (r : Calls s mem out img budget asks Starts x) where
    -- DEMAND 1: an answer from the card
    pub on-card : OnCard codes x.answer.code
    on-card = by (call-told r)
      where
        by : {x : Left} → Called s mem out img budget asks Starts x → OnCard codes x.answer.code
        by (turned_away (breaks b)) = inl (breach-range b).1
        by (turned_away (fails {c} v f)) = inr (inl (call.coded v c f))
        by (told v c well e t) = told-code codes t

    -- DEMAND 1: all below 30 have steps 0 and change nothing
    pub refusal-changes-nothing : (x.answer.code ≡ DONE → ⊥) → x.answer.code < TRAP
        → (x.answer.steps ≡ 0) × (x.memory ≡ mem) × (x.results ≡ out) × (x.image ≡ img)
    refusal-changes-nothing ne most = by (call-told r) ne most
      where
        by : {x : Left} → Called s mem out img budget asks Starts x → (x.answer.code ≡ DONE → ⊥) → x.answer.code < TRAP
            → (x.answer.steps ≡ 0) × (x.memory ≡ mem) × (x.results ≡ out) × (x.image ≡ img)
        by (turned_away t) ne most = (refl, refl, refl, refl)
        by (told v c well e t) ne most = absurd (let late = told-late t ne in omega arith)

    -- only DONE writes results
    pub only-done-writes : (x.answer.code ≡ DONE → ⊥) → x.results ≡ out
    only-done-writes ne = by (call-told r) ne
      where
        by : {x : Left} → Called s mem out img budget asks Starts x → (x.answer.code ≡ DONE → ⊥) → x.results ≡ out
        by (turned_away t) ne = refl
        by (told v c well e t) ne = told-results t ne

    -- only BUDGET writes an image
    pub only-budget-pictures : (x.answer.code ≡ BUDGET → ⊥) → x.image ≡ img
    only-budget-pictures ne = by (call-told r) ne
      where
        by : {x : Left} → Called s mem out img budget asks Starts x → (x.answer.code ≡ BUDGET → ⊥) → x.image ≡ img
        by (turned_away t) ne = refl
        by (told v c well e t) ne = told-image t ne

    pub steps-most : x.answer.steps ≤ budget
    steps-most = by (call-told r)
      where
        by : {x : Left} → Called s mem out img budget asks Starts x → x.answer.steps ≤ budget
        by (turned_away t) = omega arith
        by (told v c well e t) = told-steps t

    pub same-lengths : (length x.memory ≡ length mem) × (length x.results ≡ length out)
    same-lengths = by (call-told r)
      where
        by : {x : Left} → Called s mem out img budget asks Starts x → (length x.memory ≡ length mem) × (length x.results ≡ length out)
        by (turned_away t) = (refl, refl)
        by (told v c well e t) =
            let long = told-long v c (call.sound v c e).0 out img budget (call.slots v well) t in
            (long.0 ∙ ap length (call.sound v c e).1, long.1)

    -- and so does the image's buffer
    pub same-image-length : (a b : List ℕ) → img ≡ some a → x.image ≡ some b → length b ≡ length a
    same-image-length a b e f = by (call-told r) f
      where
        by : {x : Left} → Called s mem out img budget asks Starts x → x.image ≡ some b → length b ≡ length a
        by (turned_away t) g = let h : some b ≡ some a = sym g ∙ e in let z : b ≡ a = cc (h) in ap length z
        by (told v c well st t) g = told-image-long t g
          where
            told-image-long : {x : Left} → Told s v.header c out img budget x → x.image ≡ some b → length b ≡ length a
            told-image-long (told_done k l p q w n) g = let h : some b ≡ some a = sym g ∙ e in let z : b ≡ a = cc (h) in ap length z
            told-image-long (told_trap k l p q w) g = let h : some b ≡ some a = sym g ∙ e in let z : b ≡ a = cc (h) in ap length z
            told-image-long (told_budget {c = d} p) g =
                let there = (sound-at v c (call.sound v c st).0 out img budget budget p).0 in
                let same : some b ≡ some (picture_of d ++ drop image_bytes a) = sym g ∙ ap (paused d) e in
                let z : b ≡ picture_of d ++ drop image_bytes a = cc (same) in
                let room : image_bytes ≤ length a = subst Roomy e (call.roomy v well) in
                ap length z ∙ length-append (picture_of d) (drop image_bytes a) ∙ omega (arith, room, picture-long there, length-drop image_bytes a)

    -- what BUDGET leaves in it passes a resume, and no byte beyond is touched
    pub pause-pictures : (a b : List ℕ) → img ≡ some a → x.answer.code ≡ BUDGET → x.image ≡ some b → Pauses s x a b
    pause-pictures a b e is f = by (call-told r) call.early is f
      where
        by : {x : Left} → Called s mem out img budget asks Starts x → ((v : Valid s) (c : ℕ) → Fails (asks v.header) c → c < TRAP) → x.answer.code ≡ BUDGET
            → x.image ≡ some b → Pauses s x a b
        by (turned_away (breaks q)) early is g = absurd (let z : ⊥ = omega (arith, (breach-range q).1, is) in z)
        by (turned_away (fails {c} v q)) early is g = absurd (let z : ⊥ = omega (arith, early v c q, is) in z)
        by (told v c well st t) early is g = told-paused t is g
          where
            told-paused : {x : Left} → Told s v.header c out img budget x → x.answer.code ≡ BUDGET → x.image ≡ some b → Pauses s x a b
            told-paused (told_done k l p q w n) is g = absurd (let z : ⊥ = omega (arith, is) in z)
            told-paused (told_trap k l p q w) is g = absurd (let z : ⊥ = omega (arith, is) in z)
            told-paused (told_budget {c = d} p) is g =
                let there = (sound-at v c (call.sound v c st).0 out img budget budget p).0 in
                let same : some b ≡ some (picture_of d ++ drop image_bytes a) = sym g ∙ ap (paused d) e in
                let z : b ≡ picture_of d ++ drop image_bytes a = cc (same) in
                record {
                  valid = v;
                  config = d;
                  here = refl;
                  pictures = record {
                    sound = there;
                    placed = runs-placed v c d (call.sound v c st).0 (call.placed v c st) budget p;
                    memory = refl;
                    rest = drop image_bytes a;
                    bytes = z;
                  };
                  untouched = ap (drop image_bytes) z ∙ drop_at (picture_of d) (drop image_bytes a) image_bytes (picture-long there);
                }

    -- 24 bits hold every place
    pub place-most : bytes s → x.answer.place ≤ file_limit
    place-most b = by (call-told r)
      where
        by : {x : Left} → Called s mem out img budget asks Starts x → x.answer.place ≤ file_limit
        by (turned_away (breaks {c} {p} f)) = Exact.place-most b {r = record { code = c; place = p; steps = 0 }} (record { says = breach f; steps = refl })
        by (turned_away (fails v f)) = omega arith
        by (told v c well e t) = told-place v c (call.sound v c e).0 out img budget t

-- ---- a run is one, and a resume

pub run_call : {s args mem out : List ℕ} (img : Option (List ℕ)) → bytes mem → Orderly s mem out img (run_asks args mem out img) (Begins args mem) (run_codes img)
run_call {s} {args} {mem} {out} img m =
    record {
      sound = λ v c b. (
        subst (Sound s v.header) (sym b.begins) (begin-sound v b.values mem (record { kinds = b.given.kinds; range = b.given.range; bytes = m })),
        ap (λ (x : Config). x.state.memory) b.begins,
      );
      placed = λ v c b. subst (Placed s v.header) (sym b.begins) (begin-placed (declared v.reached) b.values mem);
      slots = λ v well. well.1.1.0;
      roomy = λ v well. well.1.1.1.1.0;
      coded = λ v. run-coded img v.header;
      early = λ v c f. run-early img c (run-coded img v.header c f);
    }
  where
    run-coded : (img : Option (List ℕ)) (h : Header) (c : ℕ) → Fails (run_asks args mem out img h) c → OneOf (run_codes img) c
    run-coded none h c (inl f) = inl f.1
    run-coded none h c (inr (a, inl f)) = inr (inl f.1)
    run-coded none h c (inr (a, inr (b, inl f))) = inr (inr (inl f.1))
    run-coded none h c (inr (a, inr (b, inr (d, inl f)))) = inr (inr (inr (inl f.1)))
    run-coded none h c (inr (a, inr (b, inr (d, inr (e, inl f))))) = absurd (f.0 tt)
    run-coded none h c (inr (a, inr (b, inr (d, inr (e, inr f))))) = absurd f.1
    run-coded (some x) h c (inl f) = inl f.1
    run-coded (some x) h c (inr (a, inl f)) = inr (inl f.1)
    run-coded (some x) h c (inr (a, inr (b, inl f))) = inr (inr (inl f.1))
    run-coded (some x) h c (inr (a, inr (b, inr (d, inl f)))) = inr (inr (inr (inl f.1)))
    run-coded (some x) h c (inr (a, inr (b, inr (d, inr (e, inl f))))) = inr (inr (inr (inr (inl f.1))))
    run-coded (some x) h c (inr (a, inr (b, inr (d, inr (e, inr f))))) = absurd f.1

    run-early : (img : Option (List ℕ)) (c : ℕ) → OneOf (run_codes img) c → c < TRAP
    run-early none c (inl e) = omega (arith, e)
    run-early none c (inr (inl e)) = omega (arith, e)
    run-early none c (inr (inr (inl e))) = omega (arith, e)
    run-early none c (inr (inr (inr (inl e)))) = omega (arith, e)
    run-early none c (inr (inr (inr (inr e)))) = absurd e
    run-early (some x) c (inl e) = omega (arith, e)
    run-early (some x) c (inr (inl e)) = omega (arith, e)
    run-early (some x) c (inr (inr (inl e))) = omega (arith, e)
    run-early (some x) c (inr (inr (inr (inl e)))) = omega (arith, e)
    run-early (some x) c (inr (inr (inr (inr (inl e))))) = omega (arith, e)
    run-early (some x) c (inr (inr (inr (inr (inr e))))) = absurd e

pub resume-call : {s mem out buffer : List ℕ} → Orderly s mem out (some buffer) (resume_asks s mem out buffer) (λ h c. Pictures s h mem buffer c) resume_codes
resume-call {s} {mem} {out} {buffer} =
    record {
      sound = λ v c p. (p.sound, p.memory);
      placed = λ v c p. p.placed;
      slots = λ v well. well.1.0;
      roomy = λ v well. well.1.1.0;
      coded = λ v. resume-coded v.header;
      early = λ v c f. resume-early c (resume-coded v.header c f);
    }
  where
    resume-coded : (h : Header) (c : ℕ) → Fails (resume_asks s mem out buffer h) c → OneOf resume_codes c
    resume-coded h c (inl f) = inl f.1
    resume-coded h c (inr (a, inl f)) = inr (inl f.1)
    resume-coded h c (inr (a, inr (b, inl f))) = inr (inr (inl f.1))
    resume-coded h c (inr (a, inr (b, inr (d, inl f)))) = inr (inr (inr (inl f.1)))
    resume-coded h c (inr (a, inr (b, inr (d, inr f)))) = absurd f.1

    resume-early : (c : ℕ) → OneOf resume_codes c → c < TRAP
    resume-early c (inl e) = omega (arith, e)
    resume-early c (inr (inl e)) = omega (arith, e)
    resume-early c (inr (inr (inl e))) = omega (arith, e)
    resume-early c (inr (inr (inr (inl e)))) = omega (arith, e)
    resume-early c (inr (inr (inr (inr e)))) = absurd e
