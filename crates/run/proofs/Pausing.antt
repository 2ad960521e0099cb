-- What is written where the budget is spent is the image of where the machine is.
use Prim.Native.Nat.{ℕ, suc, ◌+◌, ◌*◌, ◌≤◌, ◌<◌}
use mathlib.Core.Path.{◌≡◌, refl, ap, ap₂, sym, ◌∙◌, subst}
use mathlib.Core.Bool.{Bool, true, false, cond}
use mathlib.Core.List.{List, [], ◌∷◌, ◌++◌, append-nil, reverse}
use mathlib.Core.Option.{Option, none, some}
use native.Mathlib.Nat.{zero-lt-suc}
use native.Mathlib.Omega.{arith}
use borrow.Author.Tests.{eq-eqb, ne_eqb, ltb-true, ltb-false, lt-ltb, le-ltb}
use lib.Dec.{ltb}
use lib.ListN.{length, get_or, take, drop, length-append, length-map, length-reverse}
use lib.Seq.{take-add, drop-drop}
use Rattle.card.specs.Card.{BUDGET}
use Rattle.card.specs.declared.Answer.{Answer}
use Rattle.limits.specs.Limits.{slot, stack_limit}
use Rattle.machine.specs.Value.{Value, I32, kind_of, bytes_of, all_bytes}
use Rattle.machine.specs.Inner.Flat.{slot_at}
use Rattle.machine.specs.Inner.Rep.{Slots}
use Rattle.image.specs.Image.{image_bytes, painted}
use Rattle.image.proofs.Laws.{painted-image}
use Rattle.image.proofs.Painting.{painted-none}
use Rattle.rules.specs.Header.{Header, locals}
use Rattle.standard.specs.Standard.{Config, whole_stack}
use Rattle.run.specs.Meter.{leaves, picture_of, paused, meter}
use Rattle.run.specs.Inner.Carried.{Carries}
use Rattle.run.specs.Inner.Steps.{lent, Went, stops, pauses, pictured}
use Rattle.run.proofs.Marking.{part_bytes}
use Rattle.run.proofs.Picturing.{few-locals, few-values, in-range, picture-long}

-- ---- the slots that hold values

-- the first of some slots, one by one
front-slots : (vs : List Value) (bs : List ℕ) → ((k : ℕ) → k < length vs → slot_at bs k ≡ bytes_of (get_or vs k (I32 0))) → take (slot * length vs) bs ≡ all_bytes vs
unfolding all_bytes
front-slots [] bs h = refl
front-slots (v ∷ vs) bs h =
    let more : slot * suc (length vs) ≡ slot + slot * length vs = omega arith in
    ap (λ (n : ℕ). take n bs) more ∙ take-add slot (slot * length vs) bs
    ∙ ap₂ (λ (x y : List ℕ). x ++ y) (h 0 (zero-lt-suc (length vs)))
    (front-slots vs (drop slot bs)
    (λ k l. let next : slot + slot * k ≡ slot * suc k = omega arith in
    ap (take slot) (drop-drop (slot * k) slot bs ∙ ap (λ (n : ℕ). drop n bs) next) ∙ h (suc k) (omega arith)))

module _ {s : List ℕ} {h : Header} {c : Config} {at depth nest : ℕ} {stack marks held mem : List ℕ} (C : Carries s h c at depth nest stack marks held mem) where
  pub held_bytes : (count : ℕ) → count ≡ length (locals h) → take (slot * count) held ≡ all_bytes c.state.locals
  held_bytes count e =
      ap (λ (n : ℕ). take (slot * n) held) (e ∙ sym (sym (length-map c.state.locals kind_of) ∙ ap length C.sound.fits.held))
      ∙ front-slots c.state.locals held C.rep.held

  pub stack-bytes : take (slot * depth) stack ≡ all_bytes (reverse (whole_stack c))
  stack-bytes =
      ap (λ (n : ℕ). take (slot * n) stack) (sym C.rep.depth)
      ∙ part_bytes (whole_stack c) [] stack (subst (λ (vs : List Value). Slots vs stack) (sym (append-nil (whole_stack c))) C.rep.slots)

  -- what is painted of the arrays is the image
  pub painted-here : (count : ℕ) → count ≡ length (locals h) → (buffer : List ℕ) → image_bytes ≤ length buffer
      → painted at depth (take (slot * count) held) (take (slot * depth) stack) buffer ≡ picture_of c ++ drop image_bytes buffer
  painted-here count e buffer long =
      let deep : depth ≡ length (reverse (whole_stack c)) = omega (arith, C.rep.depth, length-reverse (whole_stack c)) in
      ap₂ (λ (p d : ℕ). painted p d (take (slot * count) held) (take (slot * depth) stack) buffer) (sym C.place) deep
      ∙ ap₂ (λ (x y : List ℕ). painted c.place (length (reverse (whole_stack c))) x y buffer) (held_bytes count e) stack-bytes
      ∙ painted-image c.place c.state.locals (reverse (whole_stack c)) C.sound.fits.local_range (in-range C.sound) (few-locals C.sound)
      (few-values C.sound) buffer long

-- ---- the image's buffer

pub lent_none : (buffer : List ℕ) → length buffer < image_bytes → lent buffer ≡ none
lent_none buffer l = ap (λ (t : Bool). cond t none (some buffer)) (lt-ltb (length buffer) image_bytes l)

pub lent-some : (buffer : List ℕ) → image_bytes ≤ length buffer → lent buffer ≡ some buffer
lent-some buffer l = ap (λ (t : Bool). cond t none (some buffer)) (le-ltb (length buffer) image_bytes l)

module _ (code place depth : ℕ) (held stack buffer : List ℕ) where
  pub pictured-spent : code ≡ BUDGET → pictured code place depth held stack buffer ≡ painted place depth held stack buffer
  pictured-spent e = ap (λ (t : Bool). cond t (painted place depth held stack buffer) buffer) (eq-eqb code BUDGET e)

  pub pictured-else : (code ≡ BUDGET → ⊥) → pictured code place depth held stack buffer ≡ buffer
  pictured-else ne = ap (λ (t : Bool). cond t (painted place depth held stack buffer) buffer) (ne_eqb code BUDGET ne)

-- what a stop leaves, with the image's buffer after it
pub went-left : {s : List ℕ} {h : Header} {budget : ℕ} {c : Config} {out : List ℕ} {code place steps depth : ℕ} {mem results stack marks held : List ℕ}
    → Went s h budget c out code place steps depth mem results stack marks held → (count : ℕ) → count ≡ length (locals h) → (buffer : List ℕ)
    → leaves code place steps mem results (lent (pictured code place depth (take (slot * count) held) (take (slot * depth) stack) buffer))
    ≡ meter s h budget 0 c out (lent buffer)
went-left {code = code} {place} {steps} {depth} {mem} {results} {stack} {marks} {held} (stops ne same) count e buffer =
    ap (λ (b : List ℕ). leaves code place steps mem results (lent b)) (pictured-else code place depth (take (slot * count) held) (take (slot * depth) stack) buffer ne)
    ∙ same (lent buffer)
went-left {code = code} {place} {steps} {depth} {mem} {results} {stack} {marks} {held} (pauses is d C same) count e buffer =
    ap (λ (i : Option (List ℕ)). leaves code place steps mem results i)
    (ap lent (pictured-spent code place depth (take (slot * count) held) (take (slot * depth) stack) buffer is) ∙ by (ltb (length buffer) image_bytes) refl)
    ∙ same (lent buffer)
  where
    by : (t : Bool) → ltb (length buffer) image_bytes ≡ t
        → lent (painted place depth (take (slot * count) held) (take (slot * depth) stack) buffer) ≡ paused d (lent buffer)
    by true q =
        let short = ltb-true (length buffer) image_bytes q in
        ap lent (painted-none place depth (take (slot * count) held) (take (slot * depth) stack) buffer short) ∙ lent_none buffer short
        ∙ sym (ap (paused d) (lent_none buffer short))
    by false q =
        let long = ltb-false (length buffer) image_bytes q in
        ap lent (painted-here C count e buffer long)
        ∙ lent-some (picture_of d ++ drop image_bytes buffer) (omega (arith, picture-long C.sound, length-append (picture_of d) (drop image_bytes buffer)))
        ∙ sym (ap (paused d) (lent-some buffer long))

-- asked of `pause`
pub stop-deep : {s : List ℕ} {h : Header} {budget : ℕ} {c : Config} {out : List ℕ} {code place steps depth : ℕ} {mem results stack marks held : List ℕ}
    → Went s h budget c out code place steps depth mem results stack marks held → code ≡ BUDGET → depth ≤ stack_limit
stop-deep (stops ne same) e = absurd (ne e)
stop-deep (pauses is d C same) e = C.rep.deep

-- what `pause` leaves
pub paused-left : {s : List ℕ} {h : Header} {budget : ℕ} {c : Config} {out : List ℕ} {code place steps depth : ℕ} {mem results stack marks held : List ℕ}
    → Went s h budget c out code place steps depth mem results stack marks held → (count : ℕ) → count ≡ length (locals h) → (buffer : List ℕ) (r : Answer) {buffer' : List ℕ}
    → (r.code ≡ code) × (r.place ≡ place) × (r.steps ≡ steps) × (buffer' ≡ pictured code place depth (take (slot * count) held) (take (slot * depth) stack) buffer)
    → leaves r.code r.place r.steps mem results (lent buffer') ≡ meter s h budget 0 c out (lent buffer)
paused-left {code = code} {place} {steps} {mem = mem} {results} w count e buffer r {buffer'} p =
    ap (λ (n : ℕ). leaves n r.place r.steps mem results (lent buffer')) p.0
    ∙ ap₂ (λ (a b : ℕ). leaves code a b mem results (lent buffer')) p.1 p.2
    ∙ ap (λ (b : List ℕ). leaves code place steps mem results (lent b)) p.3 ∙ went-left w count e buffer
