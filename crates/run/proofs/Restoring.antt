-- A state that an image shows, as the code holds it: the marks that the survey tells are those of its labels, the slots of the image its values.
use Prim.Native.Nat.{ℕ, suc, ◌+◌, ◌*◌, ◌≤◌}
use mathlib.Core.Path.{◌≡◌, refl, ap, ap₂, sym, ◌∙◌, subst}
use mathlib.Core.Bool.{true, false}
use mathlib.Core.List.{List, [], ◌∷◌, ◌++◌, reverse, reverse-cons, append_assoc}
use native.Mathlib.Omega.{arith}
use lib.ListN.{length, get_or, take, length-append, length-reverse}
use lib.Seq.{take_at, drop_at, get_or-append-add}
use Rattle.limits.specs.Limits.{slot, local_count, local_bytes, stack_bytes}
use Rattle.opcode.specs.Kind.{Kind}
use Rattle.opcode.specs.BlockType.{block_results}
use Rattle.instr.specs.declared.Instr.{Instr}
use Rattle.opcode.specs.Table.{Code}
use Rattle.machine.specs.Value.{Value, AllInRange, bytes_of, all_bytes}
use Rattle.machine.specs.Memory.{part}
use Rattle.machine.specs.Inner.Flat.{slot_at}
use Rattle.machine.specs.Inner.Rep.{Slots}
use Rattle.machine.proofs.Laws.Rep.{sixteen-bytes}
use Rattle.operation.proofs.Laws.Number.{Bytes}
use Rattle.image.specs.Image.{front_bytes, image_bytes, filled}
use Rattle.image.proofs.Held.{all-long}
use Rattle.image.proofs.Parts.{length-filled}
use Rattle.image.proofs.Showing.{local-fit, stack-fit}
use Rattle.image.proofs.Laws.{shown-parts}
use Rattle.rules.specs.Header.{Header}
use Rattle.rules.specs.Typing.{Frame, holding, opened, deadened, branch_kinds, all_values, Types, ordinary, branches, may_branch, opens_block, opens_loop, closes}
use Rattle.rules.specs.Strip.{Reaches, front, past}
use Rattle.rules.proofs.Onward.{declared}
use Rattle.checker.specs.Survey.{way, marks_of}
use Rattle.standard.specs.Standard.{Label, Config, whole_stack}
use Rattle.standard.specs.Safety.{Nested, outermost, inside, Sound, bodies}
use Rattle.standard.proofs.Nestings.{nested-under}
use Rattle.standard.proofs.ValueKinds.{reverse-range}
use Rattle.standard.proofs.Rebuilding.{whole-range}
use Rattle.run.specs.Inner.Carried.{Marked, open_in, Carries, Going}
use Rattle.run.specs.Inner.Steps.{Resumable}
use Rattle.run.proofs.Results.{all_append, all_one}
use Rattle.run.proofs.Start.{value-slot}
use Rattle.run.proofs.Blocking.{block-few}
use Rattle.run.proofs.Picturing.{few-locals, few-values, in-range, sound-shows, pictured-room}

-- ---- blocks leave one value at most

abbrev pub AllOne : List Frame → Type 0
AllOne [] = Unit {0}
AllOne (f ∷ []) = Unit {0}
AllOne (f ∷ g ∷ fs) = (length f.results ≤ 1) × AllOne (g ∷ fs)

same-one : (f g : Frame) (fs : List Frame) → g.results ≡ f.results → AllOne (f ∷ fs) → AllOne (g ∷ fs)
same-one f g [] e a = tt
same-one f g (x ∷ fs) e a = (subst (λ (ks : List Kind). length ks ≤ 1) (sym e) a.0, a.1)

one_more : (f : Frame) (fs : List Frame) → length f.results ≤ 1 → AllOne fs → AllOne (f ∷ fs)
one_more f [] l a = tt
one_more f (g ∷ fs) l a = (l, a)

types-one : {ls : List Kind} {i : Instr} {c : Code} {fs gs : List Frame} → Types ls i c fs gs → AllOne fs → AllOne gs
types-one (ordinary {outs = outs} {below = below} {f = f} {fs = fs} t has) a = same-one f (holding f (below ++ outs)) fs refl a
types-one (branches {f = f} {fs = fs} t has) a = same-one f (deadened f) fs refl a
types-one (may_branch {below = below} {f = f} {g = g} {fs = fs} t has) a = same-one f (holding f (below ++ branch_kinds g)) fs refl a
types-one {i = i} (opens_block {fs = fs}) a = one_more (opened false (block_results i.block)) fs (block-few i.block) a
types-one {i = i} (opens_loop {fs = fs}) a = one_more (opened true (block_results i.block)) fs (block-few i.block) a
types-one (closes {f = f} {g = g} {fs = fs} e) a = same-one g (holding g (g.values ++ f.results)) fs refl a.1

pub reached-one : {s : List ℕ} {h : Header} {p : ℕ} {fs : List Frame} → Reaches s h p fs → AllOne fs
reached-one (front d) = tt
reached-one (past r q t w) = types-one t (reached-one r)

-- ---- the marks

pub bodies-many : (ls : List Label) → length (bodies ls) ≡ length ls
bodies-many [] = refl
bodies-many (l ∷ ls) = ap suc (bodies-many ls)

marks-many : {s : List ℕ} {h : Header} {fs : List Frame} {ls : List Label} → Nested s h fs ls → length (marks_of fs (bodies ls)) ≡ 3 * length ls
marks-many (outermost a b) = refl
marks-many (inside {f = f} {g = g} {fs = fs} {l = l} {ls = ls} a b c d e n) =
    length-append (marks_of (g ∷ fs) (bodies ls)) _ ∙ omega (arith, marks-many n)

pub marks-of : {s : List ℕ} {h : Header} {fs : List Frame} {ls : List Label} → Nested s h fs ls → AllOne fs → (rest : List ℕ)
    → Marked ls (marks_of fs (bodies ls) ++ rest)
marks-of (outermost a b) one rest = tt
marks-of {s} {h} (inside {f = f} {g = g} {fs = fs} {l = l} {ls = ls} a b c d e n) one rest =
    let before = marks_of (g ∷ fs) (bodies ls) in
    let three : List ℕ = length (all_values (g ∷ fs)) ∷ way f.loop f.results ∷ l.body ∷ [] in
    let all : (before ++ three) ++ rest ≡ before ++ (three ++ rest) = append_assoc before three rest in
    let at : (k : ℕ) → get_or ((before ++ three) ++ rest) (3 * length ls + k) 0 ≡ get_or (three ++ rest) k 0 =
    λ k. ap₂ (λ (x : List ℕ) (j : ℕ). get_or x (j + k) 0) all (sym (marks-many n)) ∙ get_or-append-add before (three ++ rest) k 0 in (
      ap (λ (j : ℕ). get_or ((before ++ three) ++ rest) j 0) (omega arith) ∙ at 0 ∙ sym (nested-under (inside {f = f} {g = g} {fs = fs} {l = l} {ls = ls} a b c d e n)),
      at 1 ∙ ap₂ way (sym a) (sym b),
      at 2,
      subst (λ (ks : List Kind). length ks ≤ 1) (sym b) one.0,
      subst (Marked ls) (sym all) (marks-of n one.1 (three ++ rest)),
    )

-- ---- the slots

slots-of : (vs : List Value) (rest : List ℕ) → AllInRange vs → Slots vs (all_bytes (reverse vs) ++ rest)
slots-of [] rest r = tt
slots-of (v ∷ vs) rest r =
    let low = all_bytes (reverse vs) in
    let all : all_bytes (reverse (v ∷ vs)) ++ rest ≡ low ++ (bytes_of v ++ rest) =
    ap (λ (ws : List Value). all_bytes ws ++ rest) (reverse-cons v vs)
    ∙ ap (λ (bs : List ℕ). bs ++ rest) (all_append (reverse vs) (v ∷ []) ∙ ap (λ (bs : List ℕ). low ++ bs) (all_one v)) ∙ append_assoc low (bytes_of v) rest in (
      ap (λ (bs : List ℕ). slot_at bs (length vs)) all
          ∙ ap (take slot) (drop_at low (bytes_of v ++ rest) (slot * length vs) (all-long (reverse vs) (reverse-range vs r.1) ∙ ap (λ (n : ℕ). slot * n) (length-reverse vs)))
          ∙ take_at (bytes_of v) rest slot (sixteen-bytes v r.0).long,
      subst (Slots vs) (sym all) (slots-of vs (bytes_of v ++ rest) r.1),
    )

-- ---- the whole

module _ {s mem out buffer marks : List ℕ} {place depth count : ℕ} (r : Resumable s mem out buffer marks place depth count) where
  abbrev h : Header
  h = r.valid.header

  abbrev c : Config
  c = r.config

  abbrev sound : Sound s h c
  sound = r.pictures.sound

  -- it has room for what is read of it
  pub image-room : image_bytes ≤ length buffer
  image-room = pictured-room r.pictures

  pub few-held : count ≤ local_count
  few-held = omega (arith, r.counted, length-append h.parameters h.further, (declared r.valid.reached).few.parameters, (declared r.valid.reached).few.further)

  -- the two rooms of the image, copied
  module _ (b : Bytes mem) {held stack : List ℕ} (of_locals : held ≡ part local_bytes front_bytes buffer)
      (of-stack : stack ≡ part stack_bytes (front_bytes + local_bytes) buffer)
      {d : ℕ} (deep : d ≡ depth) where
    held-is : held ≡ filled local_bytes (all_bytes c.state.locals)
    held-is = of_locals ∙ (shown-parts (sound-shows sound buffer r.pictures.rest r.pictures.bytes)).of_locals

    stack_is : stack ≡ filled stack_bytes (all_bytes (reverse (whole_stack c)))
    stack_is = of-stack ∙ (shown-parts (sound-shows sound buffer r.pictures.rest r.pictures.bytes)).of-stack

    pub carries-on : Carries s h c place d (open_in marks) stack marks held mem
    carries-on =
        record {
          place = r.place_is;
          sound = sound;
          rep = record {
            stack_long = ap length stack_is ∙ length-filled stack_bytes (all_bytes (reverse (whole_stack c))) (stack-fit (reverse (whole_stack c)) (in-range sound) (few-values sound));
            locals_long = ap length held-is ∙ length-filled local_bytes (all_bytes c.state.locals) (local-fit c.state.locals sound.fits.local_range (few-locals sound));
            depth = r.depth_is ∙ sym deep;
            deep = omega (arith, r.depth_is, deep, few-values sound, length-reverse (whole_stack c));
            slots = subst (Slots (whole_stack c)) (sym stack_is) (slots-of (whole_stack c) _ (whole-range sound));
            stack_range = whole-range sound;
            few = few-locals sound;
            held = λ k l. ap (λ (bs : List ℕ). slot_at bs k) held-is ∙ value-slot c.state.locals _ sound.fits.local_range k l;
            local_range = sound.fits.local_range;
            memory = r.pictures.memory;
            memory_bytes = b;
          };
          many = r.many;
          marked = r.marked;
          marks_long = r.marks_long;
        }

    pub may-go-on : Going s out place d (open_in marks) stack marks held mem
    may-go-on = record { held = record { valid = r.valid; config = c; carries = carries-on }; slots = r.slots }
