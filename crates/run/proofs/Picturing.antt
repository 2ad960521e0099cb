-- AN IMAGE IS OF ONE STATE, and a state has one image.
use Prim.Native.Nat.{ℕ, ◌+◌, ◌*◌, ◌≤◌, ◌<◌, ◌^◌}
use mathlib.Core.Path.{◌≡◌, ap, ap₂, sym, ◌∙◌, subst}
use mathlib.Core.List.{List, [], ◌∷◌, ◌++◌, map, reverse, reverse-append, reverse-reverse, append_assoc}
use mathlib.Core.Logic.{◌↔◌}
use native.Mathlib.Omega.{arith}
use lib.ListN.{length, take, drop, length-append, length-map, length-reverse, take-append-drop}
use lib.Seq.{take_at}
use Rattle.limits.specs.Limits.{slot, stack_limit, local_count}
use Rattle.leb128.specs.Bytes.{bytes}
use Rattle.opcode.specs.Kind.{Kind}
use Rattle.machine.specs.Value.{Value, kind_of, AllInRange, bytes_of}
use Rattle.machine.specs.Memory.{part}
use Rattle.image.specs.Image.{image_bytes, image_of, place_in, Shows}
use Rattle.image.specs.Asked.{sixteen_bits, place_at}
use Rattle.image.proofs.Asking.{place_at_lem, shows-exact}
use Rattle.image.proofs.Laws.{image-long, shown-parts, local-slot, stack-slot, shows-once}
use Rattle.rules.specs.Header.{Header, locals}
use Rattle.rules.specs.Typing.{Frame, all_values}
use Rattle.rules.specs.Strip.{Reaches}
use Rattle.rules.proofs.Onward.{declared, reached-within, reached-once}
use Rattle.rules.proofs.Arounds.{around-reached}
use Rattle.standard.specs.Standard.{Config, whole_stack}
use Rattle.standard.specs.Safety.{Sound}
use Rattle.standard.proofs.ValueKinds.{reverse-kinds, reverse-range}
use Rattle.standard.proofs.Rebuilding.{whole_kinds, whole-range, whole-many, Rebuilt, sound-some, sound-once}
use Rattle.run.specs.Meter.{picture_of}
use Rattle.run.specs.Resume.{Pictures, Passes}
use Rattle.run.proofs.Places.{reached-inside}

-- what is known of a sound state
module _ {s : List ℕ} {h : Header} {c : Config} (sound : Sound s h c) where
  abbrev pub frames : List Frame
  frames = sound.frame ∷ sound.outer

  abbrev pub lowest-first : List Value
  lowest-first = reverse (whole_stack c)

  pub few-locals : length c.state.locals ≤ local_count
  few-locals =
      omega (
        arith,
        sym (length-map c.state.locals kind_of) ∙ ap length sound.fits.held,
        length-append h.parameters h.further,
        (declared sound.reached).few.parameters,
        (declared sound.reached).few.further,
      )

  pub few-values : length lowest-first ≤ stack_limit
  few-values = omega (arith, length-reverse (whole_stack c), whole-many sound, (reached-within sound.reached).values)

  pub value-kinds : map kind_of lowest-first ≡ all_values frames
  value-kinds = reverse-kinds (whole_stack c) ∙ ap reverse (whole_kinds sound) ∙ reverse-reverse (all_values frames)

  pub in-range : AllInRange lowest-first
  in-range = reverse-range (whole_stack c) (whole-range sound)

  pub picture-long : length (picture_of c) ≡ image_bytes
  picture-long = image-long c.place c.state.locals lowest-first sound.fits.local_range in-range few-locals few-values

  pub place_small : c.place < 2 ^ 32
  place_small = omega (arith, reached-inside sound.reached)

  -- a buffer that begins with its image shows it
  pub sound-shows : (buffer rest : List ℕ) → buffer ≡ picture_of c ++ rest
      → Shows (locals h) (all_values frames) buffer c.place c.state.locals lowest-first
  sound-shows buffer rest e =
      record {
        local_kinds = sound.fits.held;
        stack_kinds = value-kinds;
        local_range = sound.fits.local_range;
        stack_range = in-range;
        local_room = few-locals;
        stack_room = few-values;
        rest = rest;
        begins = e;
      }

  pub place-in : (buffer rest : List ℕ) → buffer ≡ picture_of c ++ rest → place_in buffer ≡ c.place
  place-in buffer rest e = (shown-parts (sound-shows buffer rest e)).place-told place_small

-- ---- one to one

module _ {s : List ℕ} {h : Header} {mem a : List ℕ} {c : Config} (p : Pictures s h mem a c) where
  pub pictured-room : image_bytes ≤ length a
  pictured-room = omega (arith, picture-long p.sound, ap length p.bytes, length-append (picture_of c) p.rest)

  -- TWO IMAGES OF ONE STATE ARE EQUAL
  pub same-images : (b : List ℕ) → Pictures s h mem b c → take image_bytes a ≡ take image_bytes b
  same-images b q =
      ap (take image_bytes) p.bytes ∙ take_at (picture_of c) p.rest image_bytes (picture-long p.sound)
      ∙ sym (take_at (picture_of c) q.rest image_bytes (picture-long q.sound)) ∙ sym (ap (take image_bytes) q.bytes)

  -- what lies beyond the image is not read: another buffer that begins with the same bytes is of the same state
  pub pictures-front : (b : List ℕ) → take image_bytes a ≡ take image_bytes b → Pictures s h mem b c
  pictures-front b e =
      record {
        sound = p.sound;
        placed = p.placed;
        memory = p.memory;
        rest = drop image_bytes b;
        bytes =
            sym (take-append-drop image_bytes b)
            ∙ ap (λ (l : List ℕ). l ++ drop image_bytes b)
            (sym e ∙ ap (take image_bytes) p.bytes ∙ take_at (picture_of c) p.rest image_bytes (picture-long p.sound));
      }

  -- ONE IMAGE IS OF ONE STATE
  pub pictures-once : (d : Config) → Pictures s h mem a d → c ≡ d
  pictures-once d q =
      let here : c.place ≡ d.place = sym (place-in p.sound a p.rest p.bytes) ∙ place-in q.sound a q.rest q.bytes in
      let same : frames p.sound ≡ frames q.sound = reached-once (subst (λ (x : ℕ). Reaches s h x (frames p.sound)) here p.sound.reached) q.sound.reached in
      let values = shows-once (sound-shows p.sound a p.rest p.bytes)
      (subst (λ (fs : List Frame). Shows (locals h) (all_values fs) a d.place d.state.locals (lowest-first q.sound)) (sym same) (sound-shows q.sound a q.rest q.bytes))
      (place_small p.sound) (place_small q.sound) in
      sound-once c d p.sound p.placed q.sound q.placed here
      (sym (reverse-reverse (whole_stack c)) ∙ ap reverse values.2 ∙ reverse-reverse (whole_stack d)) values.1 (p.memory ∙ sym q.memory)

-- ---- where each value lies

module _ {s : List ℕ} {h : Header} {mem buffer : List ℕ} {c : Config} (p : Pictures s h mem buffer c) (v : Value) where
  -- the locals, as many slots on as there are locals before it
  pub pictured-local : (before after : List Value) → c.state.locals ≡ before ++ v ∷ after → part slot (11 + slot * length before) buffer ≡ bytes_of v
  pictured-local before after e = local-slot (sound-shows p.sound buffer p.rest p.bytes) before v after e

  -- the stack, as many slots on as there are values under it
  pub pictured-value : (over under : List Value) → whole_stack c ≡ over ++ v ∷ under
      → part slot (11 + slot * local_count + slot * length under) buffer ≡ bytes_of v
  pictured-value over under e =
      let turned : lowest-first p.sound ≡ reverse under ++ v ∷ reverse over =
      ap reverse e ∙ reverse-append over (v ∷ under) ∙ ap (λ (l : List Value). l ++ reverse over) (reverse-append (v ∷ []) under) ∙ append_assoc (reverse under) (v ∷ []) (reverse over) in
      ap (λ (n : ℕ). part slot (11 + slot * local_count + slot * n) buffer) (sym (length-reverse under))
      ∙ stack-slot (sound-shows p.sound buffer p.rest p.bytes) (reverse under) v (reverse over) turned

-- ---- what 02 asks of an image, and no more

-- a state that was rebuilt from the values that a buffer shows
pub rebuilt-pictures : {s : List ℕ} {h : Header} {p : ℕ} {bs : List ℕ} {us ws : List Value} {mem buffer : List ℕ} {ls vs : List Kind}
    (b : Rebuilt s h p bs (reverse ws) us mem) → p ≡ place_in buffer → Shows ls vs buffer (place_in buffer) us ws → Pictures s h mem buffer b.config
rebuilt-pictures {us = us} {ws} b e sh =
    let values : reverse (whole_stack b.config) ≡ ws = ap reverse b.stack_is ∙ reverse-reverse ws in
    record {
      sound = b.sound;
      placed = b.placed;
      memory = b.memory-is;
      rest = sh.rest;
      bytes =
          sh.begins
          ∙ ap (λ (x : List ℕ). x ++ sh.rest)
          (ap (λ (x : ℕ). image_of x us ws) (sym (b.place_is ∙ e)) ∙ ap₂ (λ (x y : List Value). image_of b.config.place x y) (sym b.locals_are) (sym values));
    }

-- 25 IS ANSWERED FOR NOTHING ELSE
pub pictured-exact : {s : List ℕ} {h : Header} {mem buffer : List ℕ} → bytes mem → bytes buffer → ((c : Config) × Pictures s h mem buffer c) ↔ Passes s h buffer
pictured-exact {s} {h} {mem} {buffer} m b = (λ p. passes p.0 p.1, λ p. pictures p)
  where
    few : {p : ℕ} {fs : List Frame} → Reaches s h p fs → length (locals h) ≤ local_count
    few r = omega (arith, length-append h.parameters h.further, (declared r).few.parameters, (declared r).few.further)

    passes : (c : Config) → Pictures s h mem buffer c → Passes s h buffer
    passes c p =
        let sound = p.sound in
        let here : c.place ≡ place_in buffer = sym (place-in sound buffer p.rest p.bytes) in
        record {
          frames = frames sound;
          reached = subst (λ (x : ℕ). Reaches s h x (frames sound)) (here ∙ place_at_lem buffer (pictured-room p)) sound.reached;
          live = sound.live;
          asked =
              (shows-exact buffer b (locals h) (all_values (frames sound)) (few sound.reached) (reached-within sound.reached).values).0 (
                c.state.locals,
                lowest-first sound,
                subst (λ (x : ℕ). Shows (locals h) (all_values (frames sound)) buffer x c.state.locals (lowest-first sound)) here
                    (sound-shows sound buffer p.rest p.bytes),
              );
        }

    pictures : Passes s h buffer → (c : Config) × Pictures s h mem buffer c
    pictures p =
        let shown = (shows-exact buffer b (locals h) (all_values p.frames) (few p.reached) (reached-within p.reached).values).1 p.asked in
        let ws = shown.1 in
        let shows = shown.2 in
        let r = sound-some p.reached p.live (around-reached p.reached).1 (reverse ws) shown.0 mem
        (reverse-kinds ws ∙ ap reverse shows.stack_kinds) (reverse-range ws shows.stack_range) shows.local_kinds shows.local_range m in
        (r.config, rebuilt-pictures r (sym (place_at_lem buffer p.asked.room)) shows)

-- 02'S NUMBERS (C-15): an image is of version 2, so one of version 1 is 25; and it has 4,619 bytes
pub pictured-version : {s : List ℕ} {h : Header} {mem buffer : List ℕ} {c : Config} → bytes mem → bytes buffer → Pictures s h mem buffer c
    → (sixteen_bits 3 buffer ≡ 2) × (length (picture_of c) ≡ 4619)
pictured-version {c = c} m b p = (((pictured-exact m b).0 (c, p)).asked.version, picture-long p.sound)

-- the depth is that of the whole stack, in sixteen bits
pub pictured-depth : {s : List ℕ} {h : Header} {mem buffer : List ℕ} {c : Config} → bytes mem → bytes buffer → Pictures s h mem buffer c
    → sixteen_bits 9 buffer ≡ length (whole_stack c)
pictured-depth {s} {h} {mem} {buffer} {c} m b p =
    let q = (pictured-exact m b).0 (c, p) in
    let here : c.place ≡ place_at buffer = sym (place-in p.sound buffer p.rest p.bytes) ∙ place_at_lem buffer (pictured-room p) in
    let same : q.frames ≡ frames p.sound = reached-once q.reached (subst (λ (x : ℕ). Reaches s h x (frames p.sound)) here p.sound.reached) in
    q.asked.depth ∙ ap (λ (fs : List Frame). length (all_values fs)) same ∙ sym (whole-many p.sound)
