-- What an image shows: its front and its rooms together.
use Prim.Native.Nat.{ℕ, ◌+◌, ◌≤◌, ◌<◌}
use mathlib.Core.Path.{◌≡◌, ap, sym, ◌∙◌, subst}
use mathlib.Core.Bool.{Bool, true, false}
use mathlib.Core.List.{List, map}
use native.Mathlib.Omega.{arith}
use borrow.Author.Tests.{le-ltb}
use lib.ListN.{length, drop, length-map}
use Rattle.limits.specs.Limits.{local_count, stack_limit, local_bytes, stack_bytes}
use Rattle.operation.specs.Vector.{le, number}
use Rattle.operation.proofs.Laws.Number.{Bytes}
use Rattle.opcode.specs.Kind.{Kind, kind_byte}
use Rattle.machine.specs.Value.{Value, kind_of, AllInRange, all_bytes}
use Rattle.machine.specs.Memory.{part}
use Rattle.image.specs.Slots.{Tells, yes, no}
use Rattle.image.specs.Image.{front_bytes, image_bytes, place_in, Shows}
use Rattle.image.specs.Inner.Parts.{Fronts, Rooms}
use Rattle.image.proofs.Held.{all-long}
use Rattle.image.proofs.Judging.{told-yes, told-no}
use Rattle.image.proofs.Parts.{part-le}
use Rattle.image.proofs.Pieces.{Told}
use Rattle.image.proofs.Laying.{Parted, parted, whole}

-- ---- values that have room

pub local-fit : (us : List Value) → AllInRange us → length us ≤ local_count → length (all_bytes us) ≤ local_bytes
local-fit us r l = omega (arith, all-long us r)

pub stack-fit : (ws : List Value) → AllInRange ws → length ws ≤ stack_limit → length (all_bytes ws) ≤ stack_bytes
stack-fit ws r l = omega (arith, all-long ws r)

-- ---- the parts that it has, and that make it

module _ {ls vs : List Kind} {b : List ℕ} {place : ℕ} {us ws : List Value} (s : Shows ls vs b place us ws) where
  pub shown-parted : Parted b place (length ws) (all_bytes us) (all_bytes ws)
  shown-parted =
      parted place (length ws) (all_bytes us) (all_bytes ws) (local-fit us s.local_range s.local_room) (stack-fit ws s.stack_range s.stack_room) b
      s.rest s.begins

  pub locals-counted : length us ≡ length ls
  locals-counted = sym (length-map us kind_of) ∙ ap length s.local_kinds

  pub stack-counted : length ws ≡ length vs
  stack-counted = sym (length-map ws kind_of) ∙ ap length s.stack_kinds

  pub shown-front : Fronts b (length vs)
  shown-front = subst (Fronts b) stack-counted shown-parted.front

  pub shown-locals : Rooms ls local_bytes (part local_bytes front_bytes b) us
  shown-locals = record { kinds = s.local_kinds; range = s.local_range; bytes = shown-parted.of_locals }

  pub shown-stack : Rooms vs stack_bytes (part stack_bytes (front_bytes + local_bytes) b) ws
  shown-stack = record { kinds = s.stack_kinds; range = s.stack_range; bytes = shown-parted.of-stack }

pub place_read : (b : List ℕ) → image_bytes ≤ length b → place_in b ≡ number (part 4 5 b)
unfolding place_in
place_read b long = rw (le-ltb (length b) image_bytes long)

-- the image of what the rooms hold, at the place that it tells
module _ {ls vs : List Kind} (b : List ℕ) (long : image_bytes ≤ length b) (bs : Bytes b) (few : length ls ≤ local_count) (deep : length vs ≤ stack_limit) where
  pub shown : {us ws : List Value} → Fronts b (length vs) → Rooms ls local_bytes (part local_bytes front_bytes b) us
      → Rooms vs stack_bytes (part stack_bytes (front_bytes + local_bytes) b) ws → Shows ls vs b (place_in b) us ws
  shown {us} {ws} f l s =
      let n : length us ≡ length ls = sym (length-map us kind_of) ∙ ap length l.kinds in
      let m : length ws ≡ length vs = sym (length-map ws kind_of) ∙ ap length s.kinds in
      record {
        local_kinds = l.kinds;
        stack_kinds = s.kinds;
        local_range = l.range;
        stack_range = s.range;
        local_room = omega arith;
        stack_room = omega arith;
        rest = drop image_bytes b;
        begins =
            whole (place_in b) (length ws) (all_bytes us) (all_bytes ws) b
            (record {
              long = long;
              front = subst (Fronts b) (sym m) f;
              placed = sym (part-le b 4 5 (omega arith) bs) ∙ ap (le 4) (sym (place_read b long));
              of_locals = l.bytes;
              of-stack = s.bytes;
            });
      }

-- ---- what is told, of the kinds whose bytes these are

module _ (b locals stack : List ℕ) where
  abbrev Answers : Bool → Type 0
  Answers r = (ls vs : List Kind) → locals ≡ map kind_byte ls → stack ≡ map kind_byte vs → Tells ((us ws : List Value) × Shows ls vs b (place_in b) us ws) r

  counted : (kinds : List ℕ) (ks : List Kind) → kinds ≡ map kind_byte ks → length ks ≡ length kinds
  counted kinds ks e = sym (length-map ks kind_byte) ∙ sym (ap length e)

  pub not-long : length b < image_bytes → Answers false
  not-long h ls vs el es = no (λ g. let long = (shown-parted g.2).long in omega arith)

  pub not-few : local_count < length locals → Answers false
  not-few h ls vs el es = no (λ g. omega (arith, counted locals ls el, locals-counted g.2, g.2.local_room))

  pub not-deep : stack_limit < length stack → Answers false
  not-deep h ls vs el es = no (λ g. omega (arith, counted stack vs es, stack-counted g.2, g.2.stack_room))

  pub not-fronts : {r : Bool} → Tells (Fronts b (length stack)) r → r ≡ false → Answers false
  not-fronts t f ls vs el es = no (λ g. told-no t f (subst (Fronts b) (counted stack vs es) (shown-front g.2)))

  pub not-locals : {r : Bool} → Told locals local_bytes (part local_bytes front_bytes b) r → r ≡ false → Answers false
  not-locals t f ls vs el es = no (λ g. told-no (t ls el) f (g.0, shown-locals g.2))

  -- the stack is asked last
  pub shown-told : image_bytes ≤ length b → Bytes b → length locals ≤ local_count → length stack ≤ stack_limit → {r : Bool} → Tells (Fronts b (length stack)) r → r ≡ true
      → {t : Bool} → Told locals local_bytes (part local_bytes front_bytes b) t → t ≡ true
      → {u : Bool} → Told stack stack_bytes (part stack_bytes (front_bytes + local_bytes) b) u → Answers u
  shown-told long bs few deep fronts fy rooms ry last ls vs el es = by (last vs es)
    where
      front : Fronts b (length vs)
      front = subst (Fronts b) (sym (counted stack vs es)) (told-yes fronts fy)

      held : (us : List Value) × Rooms ls local_bytes (part local_bytes front_bytes b) us
      held = told-yes (rooms ls el) ry

      by : {t : Bool} → Tells ((ws : List Value) × Rooms vs stack_bytes (part stack_bytes (front_bytes + local_bytes) b) ws) t
          → Tells ((us ws : List Value) × Shows ls vs b (place_in b) us ws) t
      by (yes (ws, s)) =
          yes (held.0, ws, shown b long bs (omega (arith, counted locals ls el)) (omega (arith, counted stack vs es)) front held.1 s)
      by (no n) = no (λ g. n (g.1, shown-stack g.2))
