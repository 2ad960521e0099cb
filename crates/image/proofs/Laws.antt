-- Laws of images for callers.
use Prim.Native.Nat.{ℕ, ◌+◌, ◌*◌, ◌-◌, ◌^◌, ◌≤◌, ◌<◌}
use mathlib.Core.Path.{◌≡◌, refl, ap, sym, subst, ◌∙◌}
use mathlib.Core.List.{List, [], ◌∷◌, ◌++◌, map, append_assoc}
use native.Mathlib.Nat.{mod-eq_of_lt}
use native.Mathlib.Omega.{arith}
use lib.ListN.{length, take, drop, replicate, length-append, length-drop, length-map}
use lib.Seq.{length-take-le, take-add, take-take, take_at, drop-drop}
use Rattle.limits.specs.Limits.{slot, local_count, stack_limit, local_bytes, stack_bytes}
use Rattle.operation.specs.Vector.{number}
use Rattle.operation.proofs.Laws.Number.{number-le}
use Rattle.opcode.specs.Kind.{Kind}
use Rattle.machine.specs.Value.{Value, kind_of, InRange, AllInRange, bytes_of, all_bytes}
use Rattle.machine.specs.Memory.{part}
use Rattle.machine.proofs.Laws.Rep.{sixteen-bytes}
use Rattle.image.specs.Image.{front_bytes, image_bytes, filled, image_of, painted, place_in, Shows}
use Rattle.image.proofs.Held.{parts-once, all-long, values-once}
use Rattle.image.proofs.Laying.{laid-long}
use Rattle.image.proofs.Showing.{local-fit, stack-fit, shown-parted, place_read}
use Rattle.image.proofs.Painting.{painted-laid}

-- ---- an image of values that have room in it

module _ (place : ℕ) (ls vs : List Value) (lr : AllInRange ls) (vr : AllInRange vs) (few : length ls ≤ local_count) (deep : length vs ≤ stack_limit) where
  pub image-long : length (image_of place ls vs) ≡ image_bytes
  image-long = laid-long place (length vs) (all_bytes ls) (all_bytes vs) (local-fit ls lr few) (stack-fit vs vr deep)

  module _ (buffer : List ℕ) (long : image_bytes ≤ length buffer) where
    -- what is written
    pub painted-image : painted place (length vs) (all_bytes ls) (all_bytes vs) buffer ≡ image_of place ls vs ++ drop image_bytes buffer
    painted-image = painted-laid place (length vs) (all_bytes ls) (all_bytes vs) buffer long (local-fit ls lr few) (stack-fit vs vr deep)

    -- and shows them
    pub painted-shows : Shows (map kind_of ls) (map kind_of vs) (painted place (length vs) (all_bytes ls) (all_bytes vs) buffer) place ls vs
    painted-shows =
        record {
          local_kinds = refl;
          stack_kinds = refl;
          local_range = lr;
          stack_range = vr;
          local_room = few;
          stack_room = deep;
          rest = drop image_bytes buffer;
          begins = painted-image;
        }

-- ---- what a buffer that shows an image has

pub record ShownParts (buffer : List ℕ) (place : ℕ) (us ws : List Value) : Type 0 where
  pub long : image_bytes ≤ length buffer
  pub of_locals : part local_bytes front_bytes buffer ≡ filled local_bytes (all_bytes us)
  pub of-stack : part stack_bytes (front_bytes + local_bytes) buffer ≡ filled stack_bytes (all_bytes ws)
  pub place-told : place < 2 ^ 32 → place_in buffer ≡ place

pub shown-parts : {ls vs : List Kind} {buffer : List ℕ} {place : ℕ} {us ws : List Value} → Shows ls vs buffer place us ws → ShownParts buffer place us ws
shown-parts {buffer = buffer} {place = place} s =
    let p = shown-parted s in
    record {
      long = p.long;
      of_locals = p.of_locals;
      of-stack = p.of-stack;
      place-told = λ h. place_read buffer p.long ∙ ap number p.placed ∙ number-le 4 place ∙ mod-eq_of_lt h;
    }

-- ---- the slot of one value

all_append : (xs ys : List Value) → all_bytes (xs ++ ys) ≡ all_bytes xs ++ all_bytes ys
unfolding all_bytes
all_append [] ys = refl
all_append (x ∷ xs) ys = ap (λ (l : List ℕ). bytes_of x ++ l) (all_append xs ys) ∙ sym (append_assoc (bytes_of x) (all_bytes xs) (all_bytes ys))

range-of : (xs : List Value) (v : Value) (ys : List Value) → AllInRange (xs ++ v ∷ ys) → AllInRange xs × InRange v
range-of [] v ys r = (tt, r.0)
range-of (x ∷ xs) v ys r = let rest = range-of xs v ys r.1 in ((r.0, rest.0), rest.1)

-- as many slots after the room's beginning as there are values before it
room-slot : (b : List ℕ) (at room : ℕ) (xs : List Value) (v : Value) (ys : List Value) → AllInRange (xs ++ v ∷ ys) → at + room ≤ length b
    → slot * length (xs ++ v ∷ ys) ≤ room → part room at b ≡ filled room (all_bytes (xs ++ v ∷ ys)) → part slot (at + slot * length xs) b ≡ bytes_of v
unfolding all_bytes
room-slot b at room xs v ys r inside fit e =
    let n : ℕ = slot * length xs in
    let l : List ℕ = drop at b in
    let ranges = range-of xs v ys r in
    let m : ℕ = room - n in
    let zeros : List ℕ = replicate (room - length (all_bytes (xs ++ v ∷ ys))) 0 in
    let many = length-append xs (v ∷ ys) in
    let all : room ≡ n + m = omega (arith, fit, many) in
    let front : length (take n l) ≡ length (all_bytes xs) =
    length-take-le n l (omega (arith, length-drop at b, inside, fit, many)) ∙ sym (all-long xs ranges.0) in
    let whole : take n l ++ take m (drop n l) ≡ all_bytes xs ++ (bytes_of v ++ (all_bytes ys ++ zeros)) =
    sym (take-add n m l) ∙ ap (λ (k : ℕ). take k l) (sym all) ∙ e ∙ ap (λ (z : List ℕ). z ++ zeros) (all_append xs (v ∷ ys))
    ∙ append_assoc (all_bytes xs) (bytes_of v ++ all_bytes ys) zeros
    ∙ ap (λ (z : List ℕ). all_bytes xs ++ z) (append_assoc (bytes_of v) (all_bytes ys) zeros) in
    let rest = (parts-once (take n l) (all_bytes xs) (take m (drop n l)) (bytes_of v ++ (all_bytes ys ++ zeros)) front whole).1 in
    ap (take slot) (sym (drop-drop n at b)) ∙ sym (take-take slot m (drop n l) (omega (arith, fit, many))) ∙ ap (take slot) rest
    ∙ take_at (bytes_of v) (all_bytes ys ++ zeros) slot (sixteen-bytes v ranges.1).long

module _ {ls vs : List Kind} {b : List ℕ} {place : ℕ} {us ws : List Value} (s : Shows ls vs b place us ws) (xs : List Value) (v : Value) (ys : List Value) where
  pub local-slot : us ≡ xs ++ v ∷ ys → part slot (front_bytes + slot * length xs) b ≡ bytes_of v
  local-slot e =
      let p = shown-parts s in
      room-slot b front_bytes local_bytes xs v ys (subst AllInRange e s.local_range) (omega (arith, p.long)) (omega (arith, s.local_room, ap length e))
      (p.of_locals ∙ ap (λ (x : List Value). filled local_bytes (all_bytes x)) e)

  pub stack-slot : ws ≡ xs ++ v ∷ ys → part slot (front_bytes + local_bytes + slot * length xs) b ≡ bytes_of v
  stack-slot e =
      let p = shown-parts s in
      room-slot b (front_bytes + local_bytes) stack_bytes xs v ys (subst AllInRange e s.stack_range) (omega (arith, p.long))
      (omega (arith, s.stack_room, ap length e)) (p.of-stack ∙ ap (λ (x : List Value). filled stack_bytes (all_bytes x)) e)

-- ---- one image of values of the same kinds

room-once : (n : ℕ) (us ws : List Value) → map kind_of us ≡ map kind_of ws → AllInRange us → AllInRange ws → filled n (all_bytes us) ≡ filled n (all_bytes ws) → us ≡ ws
room-once n us ws k p q e =
    let many : length us ≡ length ws = sym (length-map us kind_of) ∙ ap length k ∙ length-map ws kind_of in
    values-once us ws k p q
    (parts-once (all_bytes us) (all_bytes ws) (replicate (n - length (all_bytes us)) 0) (replicate (n - length (all_bytes ws)) 0)
    (omega (arith, all-long us p, all-long ws q)) e).0

pub shows-once : {ls vs : List Kind} {buffer : List ℕ} {p q : ℕ} {us ws us' ws' : List Value} → Shows ls vs buffer p us ws → Shows ls vs buffer q us' ws'
    → p < 2 ^ 32 → q < 2 ^ 32 → (p ≡ q) × (us ≡ us') × (ws ≡ ws')
shows-once {us = us} {ws = ws} {us' = us'} {ws' = ws'} s t hp hq =
    let a = shown-parts s in let b = shown-parts t in (
      sym (a.place-told hp) ∙ b.place-told hq,
      room-once local_bytes us us' (s.local_kinds ∙ sym t.local_kinds) s.local_range t.local_range (sym a.of_locals ∙ b.of_locals),
      room-once stack_bytes ws ws' (s.stack_kinds ∙ sym t.stack_kinds) s.stack_range t.stack_range (sym a.of-stack ∙ b.of-stack),
    )

pub image-once : (p q : ℕ) (us ws us' ws' : List Value) (r r' : List ℕ) → p < 2 ^ 32 → q < 2 ^ 32 → map kind_of us ≡ map kind_of us' → map kind_of ws ≡ map kind_of ws'
    → AllInRange us → AllInRange ws → AllInRange us' → AllInRange ws' → length us ≤ local_count → length ws ≤ stack_limit
    → image_of p us ws ++ r ≡ image_of q us' ws' ++ r' → (p ≡ q) × (us ≡ us') × (ws ≡ ws')
image-once p q us ws us' ws' r r' hp hq ku kw ru sw ru' sw' few deep e =
    shows-once
    (record {
      local_kinds = ku;
      stack_kinds = kw;
      local_range = ru;
      stack_range = sw;
      local_room = few;
      stack_room = deep;
      rest = r;
      begins = refl;
    })
    (record {
      local_kinds = refl;
      stack_kinds = refl;
      local_range = ru';
      stack_range = sw';
      local_room = omega (arith, sym (length-map us kind_of) ∙ ap length ku ∙ length-map us' kind_of);
      stack_room = omega (arith, sym (length-map ws kind_of) ∙ ap length kw ∙ length-map ws' kind_of);
      rest = r';
      begins = e;
    })
    hp hq
