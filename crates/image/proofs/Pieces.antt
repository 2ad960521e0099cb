-- The front of an image and its rooms, asked one by one.
use Prim.Native.Nat.{ℕ, ◌+◌, ◌*◌, ◌≤◌, ◌<◌}
use mathlib.Core.Path.{◌≡◌, refl, ap, sym, ◌∙◌}
use mathlib.Core.Bool.{Bool, true, false}
use mathlib.Core.List.{List, map, ◌++◌}
use native.Mathlib.Nat.{mod-eq_of_lt}
use native.Mathlib.Omega.{arith}
use lib.Dec.{eqb}
use borrow.Author.Tests.{eqb-true, eqb-false}
use lib.ListN.{length, get_or, take, drop, take-append-drop, length-map}
use lib.Seq.{get_or-take}
use Rattle.std.specs.List.{starts_with}
use Rattle.std.proofs.lemmas.Bool.Decides.{Decides-eqb}
use Rattle.std.proofs.lemmas.Slice.Eq.{starts_is}
use Rattle.limits.specs.Limits.{slot, stack_limit}
use Rattle.operation.specs.Vector.{le, number}
use Rattle.operation.proofs.Laws.Number.{Bytes, number-le}
use Rattle.opcode.specs.Kind.{Kind, kind_byte}
use Rattle.machine.specs.Value.{Value, kind_of, AllInRange, all_bytes}
use Rattle.machine.specs.Memory.{part}
use Rattle.image.specs.Slots.{InSlots, Tells, yes, no}
use Rattle.image.specs.Image.{image_mark, image_version, front_bytes}
use Rattle.image.specs.Inner.Parts.{Zeros, Fronts, Rooms}
use Rattle.image.proofs.Held.{all-long}
use Rattle.image.proofs.Judging.{Judged, told-yes, told-no}
use Rattle.image.proofs.Parts.{first_three, part-le, room-filled, room-front, room-zeros}

-- ---- mark, version and depth

module _ (b : List ℕ) (depth : ℕ) where
  pub mark-read : Fronts b depth → (k : ℕ) → k < 3 → get_or b k 0 ≡ get_or image_mark k 0
  mark-read f k l = sym (get_or-take 3 b k 0 l) ∙ ap (λ (x : List ℕ). get_or x k 0) f.mark

  -- what `starts_with` tells of the mark
  mark-told : {r : Bool} → r ≡ starts_with eqb b image_mark → (r ≡ true → b ≡ image_mark ++ drop 3 b) × ((rest : List ℕ) → b ≡ image_mark ++ rest → r ≡ true)
  mark-told {r} e = starts_is Decides-eqb b image_mark r e

  begins : take 3 b ≡ image_mark → b ≡ image_mark ++ drop 3 b
  begins e = sym (take-append-drop 3 b) ∙ ap (λ (x : List ℕ). x ++ drop 3 b) e

  pub not-marked : {r : Bool} → r ≡ starts_with eqb b image_mark → r ≡ false → Fronts b depth → ⊥
  not-marked e n f = let marked = (mark-told e).1 (drop 3 b) (begins f.mark) in cc

  pub marked : 3 ≤ length b → get_or b 0 0 ≡ 0x57 → get_or b 1 0 ≡ 0x47 → get_or b 2 0 ≡ 0x53 → starts_with eqb b image_mark ≡ true
  marked long w g s = (mark-told refl).1 (drop 3 b) (begins (first_three b long ∙ cc))

  pub version-read : Fronts b depth → number (part 2 3 b) ≡ image_version
  version-read f = ap number f.version

  pub depth-read : depth ≤ stack_limit → Fronts b depth → number (part 2 9 b) ≡ depth
  depth-read l f = ap number f.deep ∙ number-le 2 depth ∙ mod-eq_of_lt (omega arith)

  -- the depth is asked last
  pub fronts-told : front_bytes ≤ length b → Bytes b → depth ≤ stack_limit → {r : Bool} → r ≡ starts_with eqb b image_mark → r ≡ true → (v : ℕ) → v ≡ number (part 2 3 b) → v ≡ image_version → (d : ℕ) → d ≡ number (part 2 9 b) → Tells (Fronts b depth) (eqb d depth)
  fronts-told long bs l e m v ev v-is d ed = at (eqb d depth) refl
    where
      at : (t : Bool) → eqb d depth ≡ t → Tells (Fronts b depth) t
      at true q =
          yes
          (record {
            mark = ap (take 3) ((mark-told e).0 m);
            version = sym (part-le b 2 3 (omega arith) bs) ∙ ap (le 2) (sym ev ∙ v-is);
            deep = sym (part-le b 2 9 (omega arith) bs) ∙ ap (le 2) (sym ed ∙ eqb-true d depth q);
          })
      at false q = no (λ f. eqb-false d depth q (ed ∙ depth-read l f))

-- ---- a room

-- what is told of it, of the kinds whose bytes these are
abbrev pub Told : List ℕ → ℕ → List ℕ → Bool → Type 0
Told kinds room bs r = (ks : List Kind) → kinds ≡ map kind_byte ks → Tells ((vs : List Value) × Rooms ks room bs vs) r

-- as many bytes as values of these kinds take
kinds_long : {kinds : List ℕ} {ks : List Kind} (vs : List Value) → kinds ≡ map kind_byte ks → map kind_of vs ≡ ks → AllInRange vs
    → length (all_bytes vs) ≡ slot * length kinds
kinds_long {kinds} {ks} vs e k r =
    all-long vs r ∙ ap (λ (n : ℕ). slot * n) (sym (length-map vs kind_of) ∙ ap length k ∙ sym (length-map ks kind_byte) ∙ sym (ap length e))

module _ (b kinds : List ℕ) (at room : ℕ) (inside : at + room ≤ length b) (fit : slot * length kinds ≤ room) (n : ℕ) (is : n ≡ slot * length kinds)
    {r : Bool} (judged : Judged kinds (part n at b) r) where
  in-slots : {ks : List Kind} {vs : List Value} → kinds ≡ map kind_byte ks → Rooms ks room (part room at b) vs → InSlots ks (part n at b) vs
  in-slots {ks} {vs} e g =
      let long = kinds_long vs e g.kinds g.range in
      record {
        kinds = g.kinds;
        range = g.range;
        bytes = ap (λ (k : ℕ). part k at b) (is ∙ sym long) ∙ room-front b (all_bytes vs) at room inside (omega arith) g.bytes;
      }

  pub not-in-slots : r ≡ false → Told kinds room (part room at b) false
  not-in-slots f ks e = no (λ g. told-no (judged ks e) f (g.0, in-slots e g.1))

  pub room-told : r ≡ true → {t : Bool} → Tells (Zeros (at + slot * length kinds) (at + room) b) t → Told kinds room (part room at b) t
  room-told f (yes zs) ks e =
      let g = told-yes (judged ks e) f in
      let vs = g.0 in
      let long = kinds_long vs e g.1.kinds g.1.range in
      yes (
        vs,
        record {
          kinds = g.1.kinds;
          range = g.1.range;
          bytes =
              room-filled b (all_bytes vs) at room inside (omega arith) (ap (λ (k : ℕ). part k at b) (long ∙ sym is) ∙ g.1.bytes)
              (λ k l m. zs k (omega arith) m);
        },
      )
  room-told f (no nz) ks e =
      no (λ g. let long = kinds_long g.0 e g.1.kinds g.1.range in
      nz (λ k l m. room-zeros b (all_bytes g.0) at room inside (omega arith) g.1.bytes k (omega arith) m))
