-- What a resume asks, in the card's order: what the survey of the strip tells at the image's place, and what the image shows there.
use Prim.Native.Nat.{ℕ, ◌+◌, ◌*◌, ◌-◌, ◌≤◌, ◌<◌}
use mathlib.Core.Path.{◌≡◌, refl, ap, ap₂, sym, ◌∙◌, subst}
use mathlib.Core.Bool.{Bool, true, false}
use mathlib.Core.List.{List, ◌++◌, map, reverse}
use mathlib.Core.Logic.{inl, inr}
use mathlib.Core.Option.{some}
use native.Mathlib.Omega.{arith}
use lib.ListN.{length, get_or, set, take, drop, length-append, length-map, length-reverse, length-drop, length-set}
use lib.Seq.{take_at, get_or-set_same}
use Rattle.std.specs.Prelude.{None, Some, Ok, Err}
use Rattle.std.specs.declared.option.Option.{Option}
use Rattle.std.specs.declared.result.Result.{Result}
use Rattle.card.specs.Card.{ROOM, OUT, SMALL, IMAGE}
use Rattle.card.specs.declared.Answer.{Answer}
use Rattle.leb128.specs.Bytes.{bytes}
use Rattle.limits.specs.Limits.{slot, memory_limit, stack_limit, nest_limit}
use Rattle.opcode.specs.Kind.{Kind, kind_byte}
use Rattle.machine.specs.Value.{Value, kind_of}
use Rattle.image.specs.Slots.{Tells}
use Rattle.image.specs.Image.{image_bytes, place_in, Shows}
use Rattle.image.proofs.Judging.{told-yes, told-no}
use Rattle.rules.specs.Header.{Header, locals}
use Rattle.rules.specs.Typing.{Frame, all_values}
use Rattle.rules.specs.Strip.{Reaches, Valid}
use Rattle.rules.proofs.Onward.{declared, reached-within, reached-once}
use Rattle.rules.specs.Breach.{Breach}
use Rattle.checker.specs.declared.Refusal.{Refusal}
use Rattle.checker.specs.declared.place.Surveyed.{Surveyed}
use Rattle.checker.specs.Survey.{marks_of, fronted, Surveys, breaks, misses, finds}
use Rattle.checker.proofs.Marks.{marks-many}
use Rattle.checker.proofs.Surveys.{Found, survey-found, survey-nowhere}
use Rattle.standard.specs.Standard.{Config, whole_stack}
use Rattle.standard.specs.Safety.{Nested}
use Rattle.standard.proofs.Nestings.{nested-many}
use Rattle.standard.proofs.ValueKinds.{reverse-kinds, reverse-range}
use Rattle.standard.proofs.Rebuilding.{Rebuilt, sound-some}
use Rattle.run.specs.Meter.{leaves, meter}
use Rattle.run.specs.Call.{Fails, breaks as breaks-rule, fails, refused, metered}
use Rattle.run.specs.Resume.{Pictures, resume_asks, Resumes}
use Rattle.run.specs.Inner.Carried.{Marked}
use Rattle.run.specs.Inner.Steps.{Resumable, Resumed}
use Rattle.run.proofs.HeaderBytes.{Counts, counts-read, inside, local-count, local_kinds}
use Rattle.run.proofs.Asking.{results-told}
use Rattle.run.proofs.Marking.{marked-kept}
use Rattle.run.proofs.Picturing.{frames, lowest-first, sound-shows, place-in, rebuilt-pictures}
use Rattle.run.proofs.Pausing.{lent-some}
use Rattle.run.proofs.Restoring.{reached-one, marks-of, bodies-many}
use Rattle.run.proofs.Answering.{turned-call}

-- ---- what a survey tells of a strip that keeps the rules

fronted-long : (xs old : List ℕ) → length xs ≤ length old → length (fronted xs old) ≡ length old
fronted-long xs old l = length-append xs (drop (length xs) old) ∙ omega (arith, l, length-drop (length xs) old)

module _ {s : List ℕ} {place : ℕ} {kinds₀ marks₀ kinds marks : List ℕ} {answer : Result (Option Surveyed) Refusal} (sv : Surveys s place kinds₀ marks₀ answer kinds marks) where
  pub survey-valid : {known : Option Surveyed} → answer ≡ Ok known → Valid s
  survey-valid {known} done = by sv done
    where
      by : {answer : Result (Option Surveyed) Refusal} {kinds marks : List ℕ} → Surveys s place kinds₀ marks₀ answer kinds marks → answer ≡ Ok known → Valid s
      by (breaks b) e = absurd (let z : ◌≡◌ {A = ℕ} 0 1 = cc in omega arith)
      by (misses v never) e = v
      by (finds v r l a) e = v

  -- the counts in the header, and the kind bytes that they count
  pub survey-counts : {known : Option Surveyed} (done : answer ≡ Ok known) → Counts (declared (survey-valid done).reached)
  survey-counts done = counts-read (declared (survey-valid done).reached)

  pub survey-inside : {known : Option Surveyed} → answer ≡ Ok known → 8 + (get_or s 5 0 + get_or s 6 0) ≤ length s
  survey-inside done = omega (arith, (survey-counts done).body, inside (declared (survey-valid done).reached))

  -- the stack holds the values that it tells
  pub survey-deep : {w : Surveyed} → answer ≡ Ok (Some w) → w.depth ≤ stack_limit
  survey-deep is-so = let f = survey-found sv is-so in omega (arith, f.depth_is, (reached-within f.reached).values)

  -- no array grows
  pub survey-kinds : {w : Surveyed} → answer ≡ Ok (Some w) → length kinds₀ ≡ stack_limit → length kinds ≡ stack_limit
  survey-kinds is-so e =
      let f = survey-found sv is-so in
      let front = map kind_byte (all_values f.frames) in
      ap length f.kinds-are
      ∙ fronted-long front kinds₀ (omega (arith, e, length-map (all_values f.frames) kind_byte, (reached-within f.reached).values)) ∙ e

  pub survey-marks : {w : Surveyed} → answer ≡ Ok (Some w) → length marks₀ ≡ 3 * nest_limit + 1 → length marks ≡ 3 * nest_limit + 1
  survey-marks is-so e =
      let f = survey-found sv is-so in
      ap length f.marks-are
      ∙ fronted-long (marks_of f.frames f.begun) marks₀
      (omega (arith, e, marks-many f.frames f.begun f.many, f.many, (reached-within f.reached).blocks)) ∙ e

  -- ---- the questions

  module _ (mem out buffer : List ℕ) (budget : ℕ) where
    abbrev Answers : Answer → Type 0
    Answers r = Resumes s mem out buffer budget (leaves r.code r.place r.steps mem out (some buffer))

    pub checked-first : {e : Refusal} → answer ≡ Err e → Resumes s mem out buffer budget (leaves e.code e.place 0 mem out (some buffer))
    checked-first {e} is = by sv is
      where
        by : {answer : Result (Option Surveyed) Refusal} {kinds marks : List ℕ} → Surveys s place kinds₀ marks₀ answer kinds marks → answer ≡ Err e
            → Resumes s mem out buffer budget (leaves e.code e.place 0 mem out (some buffer))
        by (breaks {e = e'} b) q = let same : e' ≡ e = cc in refused (breaks-rule (subst (λ (x : Refusal). Breach s x.code x.place) same b))
        by (misses v never) q = absurd (let z : ◌≡◌ {A = ℕ} 0 1 = cc in omega arith)
        by (finds v r l a) q = absurd (let z : ◌≡◌ {A = ℕ} 0 1 = cc in omega arith)

    -- of any proof that it keeps the rules
    turned : (v : Valid s) {code : ℕ} (r : Answer) → (r.code ≡ code) × (r.place ≡ 0) × (r.steps ≡ 0) → Fails (resume_asks s mem out buffer v.header) code → Answers r
    turned v r e f = turned-call r e (fails v f)

    module _ {known : Option Surveyed} (done : answer ≡ Ok known) where
      pub no_room : (r : Answer) → (r.code ≡ ROOM) × (r.place ≡ 0) × (r.steps ≡ 0) → memory_limit < length mem → Answers r
      no_room r e l = turned (survey-valid done) r e (inl (λ k. omega (arith, k, l), refl))

      module _ (l : length mem ≤ memory_limit) where
        pub other-out : (r : Answer) → (r.code ≡ OUT) × (r.place ≡ 0) × (r.steps ≡ 0) → (length out ≡ slot * get_or s 7 0 → ⊥) → Answers r
        other-out r e ne = turned (survey-valid done) r e (inr (l, inl (λ q. ne (q ∙ sym (results-told (survey-valid done))), refl)))

        module _ (o : length out ≡ slot * get_or s 7 0) where
          pub no-image : (r : Answer) → (r.code ≡ SMALL) × (r.place ≡ 0) × (r.steps ≡ 0) → length buffer < image_bytes → Answers r
          no-image r e k = turned (survey-valid done) r e (inr (l, inr (o ∙ results-told (survey-valid done), inl (λ long. omega (arith, long, k), refl))))

          module _ (long : image_bytes ≤ length buffer) (read : place ≡ place_in buffer) where
            not-pictured : (v : Valid s) (r : Answer) → (r.code ≡ IMAGE) × (r.place ≡ 0) × (r.steps ≡ 0) → ((c : Config) → Pictures s v.header mem buffer c → ⊥)
                → Answers r
            not-pictured v r e never = turned v r e (inr (l, inr (o ∙ results-told v, inr (long, inl (λ p. never p.0 p.1, refl)))))

            -- an image's place is that of the survey
            there : (v : Valid s) (c : Config) (p : Pictures s v.header mem buffer c) → Reaches s v.header place (frames p.sound)
            there v c p =
                subst (λ (x : ℕ). Reaches s v.header x (frames p.sound)) (sym (read ∙ place-in p.sound buffer p.rest p.bytes)) p.sound.reached

            pub no_place : (r : Answer) → (r.code ≡ IMAGE) × (r.place ≡ 0) × (r.steps ≡ 0) → known ≡ None → Answers r
            no_place r e is-not =
                not-pictured (survey-valid done) r e
                (λ c p. survey-nowhere sv (λ some q. let z : ◌≡◌ {A = ℕ} 0 1 = cc in omega arith) (survey-valid done) (frames p.sound) (there (survey-valid done) c p) p.sound.live)

            module _ {w : Surveyed} (f : Found s place kinds₀ marks₀ w kinds marks) where
              abbrev v : Valid s
              v = f.valid

              abbrev h : Header
              h = f.valid.header

              abbrev count : ℕ
              count = get_or s 5 0 + get_or s 6 0

              stack_kinds : take w.depth kinds ≡ map kind_byte (all_values f.frames)
              stack_kinds =
                  ap (take w.depth) f.kinds-are
                  ∙ take_at (map kind_byte (all_values f.frames)) _ w.depth (length-map (all_values f.frames) kind_byte ∙ sym f.depth_is)

              abbrev Shown : Type 0
              Shown = (us ws : List Value) × Shows (locals h) (all_values f.frames) buffer (place_in buffer) us ws

              -- what is told of the image by those kinds
              module _ {t : Bool}
                  (shown : (ls vs : List Kind) → take (8 + count - 8) (drop 8 s) ≡ map kind_byte ls → take w.depth kinds ≡ map kind_byte vs
                  → Tells ((us ws : List Value) × Shows ls vs buffer (place_in buffer) us ws) t) where
                told : Tells Shown t
                told = shown (locals h) (all_values f.frames) (local_kinds (declared v.reached) (8 + count - 8) (omega arith)) stack_kinds

                pub other-values : (r : Answer) → (r.code ≡ IMAGE) × (r.place ≡ 0) × (r.steps ≡ 0) → t ≡ false → Answers r
                other-values r e is-not =
                    not-pictured v r e
                    (λ c p. told-no told is-not (
                      c.state.locals,
                      lowest-first p.sound,
                      subst (λ (fs : List Frame). Shows (locals h) (all_values fs) buffer (place_in buffer) c.state.locals (lowest-first p.sound))
                          (reached-once (there v c p) f.reached)
                          (subst (λ (x : ℕ). Shows (locals h) (all_values (frames p.sound)) buffer x c.state.locals (lowest-first p.sound))
                          (sym (place-in p.sound buffer p.rest p.bytes)) (sound-shows p.sound buffer p.rest p.bytes)),
                    ))

                -- the state that it shows
                module _ (m : bytes mem) (is-so : t ≡ true) (long-marks : length marks ≡ 3 * nest_limit + 1) where
                  abbrev sh : Shown
                  sh = told-yes told is-so

                  abbrev us : List Value
                  us = sh.0

                  abbrev ws : List Value
                  ws = sh.1

                  rebuilt : Rebuilt s h place f.begun (reverse ws) us mem
                  rebuilt =
                      sound-some f.reached f.live f.around (reverse ws) us mem (reverse-kinds ws ∙ ap reverse sh.2.stack_kinds)
                      (reverse-range ws sh.2.stack_range) sh.2.local_kinds sh.2.local_range m

                  abbrev c : Config
                  c = rebuilt.config

                  depth-there : length (whole_stack c) ≡ w.depth
                  depth-there =
                      ap length rebuilt.stack_is ∙ length-reverse ws ∙ sym (length-map ws kind_of) ∙ ap length sh.2.stack_kinds ∙ sym f.depth_is

                  same-frames : frames rebuilt.sound ≡ f.frames
                  same-frames = reached-once (subst (λ (x : ℕ). Reaches s h x (frames rebuilt.sound)) rebuilt.place_is rebuilt.sound.reached) f.reached

                  nested : Nested s h (frames rebuilt.sound) c.labels
                  nested = rebuilt.sound.fits.nested

                  few-labels : length c.labels ≤ nest_limit
                  few-labels = omega (arith, nested-many nested, (reached-within rebuilt.sound.reached).blocks)

                  nest-there : w.nest ≡ length c.labels
                  nest-there = f.nest-is ∙ ap length (sym rebuilt.bodies-are) ∙ bodies-many c.labels

                  marks-there : Marked c.labels marks
                  marks-there =
                      subst (Marked c.labels)
                      (ap₂ (λ (fs : List Frame) (bs : List ℕ). marks_of fs bs ++ drop (length (marks_of f.frames f.begun)) marks₀) same-frames rebuilt.bodies-are
                      ∙ sym f.marks-are)
                      (marks-of nested (reached-one rebuilt.sound.reached) (drop (length (marks_of f.frames f.begun)) marks₀))

                  pub resumable : Resumable s mem out buffer (set marks (3 * nest_limit) w.nest) place w.depth count
                  resumable =
                      record {
                        valid = v;
                        config = c;
                        pictures = rebuilt-pictures rebuilt read sh.2;
                        place_is = rebuilt.place_is;
                        depth_is = depth-there;
                        counted = local-count (declared v.reached);
                        many = sym nest-there ∙ sym (get_or-set_same marks (3 * nest_limit) w.nest 0 (omega (arith, long-marks)));
                        marked = marked-kept c.labels marks (3 * nest_limit) w.nest (omega (arith, few-labels)) marks-there;
                        marks_long = length-set marks (3 * nest_limit) w.nest ∙ long-marks;
                        slots = o ∙ results-told v;
                      }

-- ---- and then what is left

pub resumed : {s mem out buffer marks : List ℕ} {place depth count budget code at steps : ℕ} {mem' out' buffer' : List ℕ} → length mem ≤ memory_limit
    → image_bytes ≤ length buffer → length buffer' ≡ length buffer → Resumed s mem out buffer marks place depth count budget code at steps mem' out' buffer'
    → Resumes s mem out buffer budget (leaves code at steps mem' out' (some buffer'))
resumed {s} {mem} {out} {buffer} {budget = budget} {code} {at} {steps} {mem'} {out'} {buffer'} l long kept d =
    let r = d.ready in
    subst (Resumes s mem out buffer budget)
    (sym (ap (λ (i : mathlib.Core.Option.Option (List ℕ)). leaves code at steps mem' out' i) (sym (lent-some buffer' (omega (arith, long, kept)))) ∙ d.same
    ∙ ap (meter s r.valid.header budget 0 r.config out) (lent-some buffer long)))
    (metered r.valid r.config (l, (r.slots, (long, ((r.config, r.pictures), tt)))) r.pictures)
