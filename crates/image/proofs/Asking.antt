-- A BUFFER SHOWS AN IMAGE EXACTLY WHERE EVERY BYTE IS AS 02 ASKS: the parts laid one after the other, and the same byte by byte.
use Prim.Native.Nat.{ℕ, zero, suc, ◌+◌, ◌*◌, ◌-◌, ◌/◌, ◌%◌, ◌≤◌, ◌<◌}
use mathlib.Core.Path.{◌≡◌, refl, ap, sym, ◌∙◌}
use mathlib.Core.Bool.{Bool, true, false}
use mathlib.Core.List.{List, [], ◌∷◌}
use mathlib.Core.Logic.{◌↔◌}
use native.Mathlib.Omega.{arith}
use borrow.Author.Tests.{eq-eqb, ltb-true, ltb-false}
use lib.Dec.{ltb}
use lib.ListN.{length, get_or, drop, length-map}
use lib.Seq.{get_or-take, get_or-drop}
use Rattle.limits.specs.Limits.{slot, local_count, stack_limit, local_bytes}
use Rattle.operation.specs.Vector.{number}
use Rattle.operation.proofs.Laws.Number.{Bytes}
use Rattle.opcode.specs.Kind.{Kind, i32, bytes_used}
use Rattle.machine.specs.Value.{Value, kind_of, all_bytes}
use Rattle.machine.specs.Memory.{part}
use Rattle.machine.proofs.Laws.Ranges.{bytes-part, length_part}
use Rattle.image.specs.Slots.{InSlots}
use Rattle.image.specs.Image.{front_bytes, image_bytes, place_in, Shows}
use Rattle.image.specs.Asked.{place_at, used_at, UnusedZero, Asked}
use Rattle.image.specs.Inner.Parts.{Fronts, Rooms}
use Rattle.image.proofs.Form.{formed-given, given-formed}
use Rattle.image.proofs.Held.{all-long}
use Rattle.image.proofs.Judging.{told-yes}
use Rattle.image.proofs.Parts.{two-number, four-number, room-filled, room-front, room-zeros}
use Rattle.image.proofs.Pieces.{mark-read, marked, version-read, depth-read, fronts-told}
use Rattle.image.proofs.Showing.{shown-parted, shown-front, shown-locals, shown-stack, place_read, shown}

-- ---- the place

pub place_at_lem : (b : List ℕ) → image_bytes ≤ length b → place_in b ≡ place_at b
place_at_lem b long =
    place_read b long ∙ four-number b 5 (omega arith)
    ∙ omega (arith, two-number b 5 (omega arith), two-number b 7 (omega arith))

-- ---- how much of a slot is used

used-inside : (ks : List Kind) (k : ℕ) → k < length ks → used_at ks k ≡ bytes_used (get_or ks k i32)
used-inside [] k l = absurd (let z : ⊥ = omega arith in z)
used-inside (x ∷ ks) zero l = refl
used-inside (x ∷ ks) (suc k) l = used-inside ks k (omega arith)

used-beyond : (ks : List Kind) (k : ℕ) → length ks ≤ k → used_at ks k ≡ 0
used-beyond [] k l = refl
used-beyond (x ∷ ks) zero l = absurd (let z : ⊥ = omega arith in z)
used-beyond (x ∷ ks) (suc k) l = used-beyond ks k (omega arith)

-- ---- slots from a place on

module _ (b : List ℕ) (ks : List Kind) (at count : ℕ) (inside : at + slot * count ≤ length b) (few : length ks ≤ count) where
  -- those that hold values
  abbrev held : List ℕ
  held = part (slot * length ks) at b

  held-long : length held ≡ slot * length ks
  held-long = length_part (slot * length ks) at b (omega arith)

  byte_of : (i : ℕ) → i < slot * length ks → get_or held i 0 ≡ get_or b (at + i) 0
  byte_of i l = get_or-take (slot * length ks) (drop at b) i 0 l ∙ get_or-drop at b i 0

  pub unused-room : Bytes b → UnusedZero ks at count b → (vs : List Value) × Rooms ks (slot * count) (part (slot * count) at b) vs
  unused-room bs zero-all =
      let g = formed-given ks held held-long (bytes-part (slot * length ks) at b bs)
      (λ j l i from to. byte_of i (omega arith) ∙ unused j i l from to) in
      let vs = g.0 in
      let long : length (all_bytes vs) ≡ slot * length ks = sym (ap length g.1.bytes) ∙ held-long in (
        vs,
        record {
          kinds = g.1.kinds;
          range = g.1.range;
          bytes =
              room-filled b (all_bytes vs) at (slot * count) inside (omega arith) (ap (λ (n : ℕ). part n at b) long ∙ g.1.bytes)
              (λ i from to. beyond i (omega arith) to);
        },
      )
    where
      unused : (j i : ℕ) → j < length ks → slot * j + bytes_used (get_or ks j i32) ≤ i → i < slot * j + slot → get_or b (at + i) 0 ≡ 0
      unused j i l from to =
          let r : ℕ = i - slot * j in
          let e : slot * j + r ≡ i = omega arith in
          ap (λ (n : ℕ). get_or b (at + n) 0) (sym e) ∙ zero-all j r (omega arith) (omega (arith, used-inside ks j l)) (omega arith)

      beyond : (i : ℕ) → at + slot * length ks ≤ i → i < at + slot * count → get_or b i 0 ≡ 0
      beyond i from to =
          let q : ℕ = (i - at) / slot in
          let r : ℕ = (i - at) % slot in
          let e : at + (slot * q + r) ≡ i = omega arith in
          ap (λ (n : ℕ). get_or b n 0) (sym e) ∙ zero-all q r (omega arith) (omega (arith, used-beyond ks q (omega arith))) (omega arith)

  pub room-unused : {vs : List Value} → Rooms ks (slot * count) (part (slot * count) at b) vs → UnusedZero ks at count b
  room-unused {vs} g k j l from to = by (ltb k (length ks)) refl
    where
      long : length (all_bytes vs) ≡ slot * length ks
      long = all-long vs g.range ∙ ap (λ (n : ℕ). slot * n) (sym (length-map vs kind_of) ∙ ap length g.kinds)

      slots : InSlots ks held vs
      slots =
          record {
            kinds = g.kinds;
            range = g.range;
            bytes = ap (λ (n : ℕ). part n at b) (sym long) ∙ room-front b (all_bytes vs) at (slot * count) inside (omega (arith, long)) g.bytes;
          }

      by : (t : Bool) → ltb k (length ks) ≡ t → get_or b (at + (slot * k + j)) 0 ≡ 0
      by true q =
          let h : k < length ks = ltb-true k (length ks) q in
          sym (byte_of (slot * k + j) (omega arith)) ∙ given-formed slots k h (slot * k + j) (omega (arith, used-inside ks k h)) (omega arith)
      by false q =
          let h : length ks ≤ k = ltb-false k (length ks) q in
          room-zeros b (all_bytes vs) at (slot * count) inside (omega (arith, long)) g.bytes (at + (slot * k + j)) (omega (arith, long)) (omega arith)

-- ---- the whole

module _ (b : List ℕ) (small : (k : ℕ) → get_or b k 0 < 256) (locals stack : List Kind) (few : length locals ≤ local_count) (deep : length stack ≤ stack_limit) where
  bs : Bytes b
  bs k = record { fits = small k }

  asked : {us ws : List Value} → Shows locals stack b (place_in b) us ws → Asked locals stack b
  asked s =
      let long : image_bytes ≤ length b = (shown-parted s).long in
      let front = shown-front s in
      record {
        room = long;
        mark = (mark-read b (length stack) front 0 (omega arith), mark-read b (length stack) front 1 (omega arith), mark-read b (length stack) front 2 (omega arith));
        version = sym (two-number b 3 (omega arith)) ∙ version-read b (length stack) front;
        depth = sym (two-number b 9 (omega arith)) ∙ depth-read b (length stack) deep front;
        locals_zero = room-unused b locals front_bytes local_count (omega arith) few (shown-locals s);
        stack_zero = room-unused b stack (front_bytes + local_bytes) stack_limit (omega arith) deep (shown-stack s);
      }

  shows : Asked locals stack b → (us ws : List Value) × Shows locals stack b (place_in b) us ws
  shows a =
      let long : image_bytes ≤ length b = a.room in
      let n = length stack in
      let front : Fronts b n = told-yes (fronts-told b n (omega arith) bs deep refl (marked b n (omega arith) a.mark.0 a.mark.1 a.mark.2)
      (number (part 2 3 b)) refl (two-number b 3 (omega arith) ∙ a.version) (number (part 2 9 b)) refl)
      (eq-eqb (number (part 2 9 b)) n (two-number b 9 (omega arith) ∙ a.depth)) in
      let l = unused-room b locals front_bytes local_count (omega arith) few bs a.locals_zero in
      let s = unused-room b stack (front_bytes + local_bytes) stack_limit (omega arith) deep bs a.stack_zero in
      (l.0, s.0, shown b long bs few deep front l.1 s.1)

  pub shows-exact : ((us ws : List Value) × Shows locals stack b (place_in b) us ws) ↔ Asked locals stack b
  shows-exact = ((λ g. asked g.2), shows)
