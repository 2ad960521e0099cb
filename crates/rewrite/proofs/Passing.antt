-- A pass: what has been read, before what is still to be read.
use Prim.Native.Nat.{ℕ, ◌+◌, ◌-◌, ◌<◌, ◌≤◌}
use mathlib.Core.Path.{◌≡◌, refl, sym, ap, ap₂, subst, ◌∙◌}
use mathlib.Core.Bool.{Bool, true, false}
use mathlib.Core.List.{List, [], ◌∷◌, ◌++◌}
use native.Mathlib.Omega.{arith}
use lib.ListN.{length, take, drop, length-append, length-drop, length-take}
use lib.Seq.{sets}
use borrow.Rule.Slice.PartMut.{put_mid}
use borrow.Author.Tests.{le-leb, eq-eqb}
use Rattle.card.specs.Card.{DONE}
use Rattle.instr.specs.declared.Instr.{Instr}
use Rattle.instr.specs.declared.Decoded.{Decoded}
use Rattle.instr.specs.declared.Encoded.{Encoded}
use Rattle.instr.specs.Layout.{Stands, found}
use Rattle.instr.specs.Decode.{decode_at, decode_in}
use Rattle.instr.specs.Encode.{encoding, fault, encoded, encoded_in}
use Rattle.instr.proofs.Decodes.{stands-decodes}
use Rattle.instr.proofs.Encodes.{stands-encodes}
use Rattle.instr.proofs.Ranges.{stands-some, stands-inside}
use Rattle.rules.specs.Header.{Version}
use Rattle.rules.specs.Consists.{Instructions, no_more, one_more}
use Rattle.rewrite.specs.Rewrite.{encodings}
use Rattle.rewrite.specs.Inner.Pass.{put, AtPass, Passed}
use Rattle.buffer.proofs.Writing.{part-sets}
use Rattle.rewrite.proofs.Puts.{put-append, length-put}

pub record Passing (ver : ℕ) (s : List ℕ) (start : ℕ) (writing : Bool) (out₀ out : List ℕ) (at to : ℕ) : Type 0 where
  pub versioned : Version ver
  pub all : List Instr
  pub left : List Instr
  pub from_start : Instructions ver s start all
  pub from-here : Instructions ver s at left
  pub less : to ≤ at
  pub ends : to + length (encodings left) ≡ start + length (encodings all)
  pub room : writing ≡ true → start + length (encodings all) ≤ length out
  pub same : put writing out to (encodings left) ≡ put writing out₀ start (encodings all)
  pub long : length out ≡ length out₀

pub begins : {ver : ℕ} {s : List ℕ} {start : ℕ} {writing : Bool} {out : List ℕ} → AtPass ver s start writing (length out)
    → Passing ver s start writing out out start start
begins f =
    record {
      versioned = f.versioned;
      all = f.instrs;
      left = f.instrs;
      from_start = f.stand;
      from-here = f.stand;
      less = omega arith;
      ends = refl;
      room = f.room;
      same = refl;
      long = refl;
    }

-- the instruction at a place before the end of the file
record Front (ver : ℕ) (s : List ℕ) (at : ℕ) (is : List Instr) : Type 0 where
  instr : Instr
  size : ℕ
  rest : List Instr
  list : is ≡ instr ∷ rest
  stands : Stands ver s at instr size
  after : Instructions ver s (at + size) rest

first : {ver : ℕ} {s : List ℕ} {at : ℕ} {is : List Instr} → Instructions ver s at is → at < length s → Front ver s at is
first (no_more e) h = absurd (let z : ⊥ = omega (arith, e) in z)
first (one_more {n = n} {i = i} {is = is} w r) h = record { instr = i; size = n; rest = is; list = refl; stands = w; after = r }

none_left : {ver : ℕ} {s : List ℕ} {at : ℕ} {is : List Instr} → Instructions ver s at is → length s ≤ at → is ≡ []
none_left (no_more e) h = refl
none_left (one_more w r) h = absurd (let z : ⊥ = omega (arith, stands-some w, stands-inside w) in z)

module _ {ver : ℕ} {s : List ℕ} {start : ℕ} {writing : Bool} {out₀ out : List ℕ} {at to : ℕ} (p : Passing ver s start writing out₀ out at to) where
  pub passes : length s ≤ at → Passed ver s start writing out₀ to out
  passes h =
      let none = none_left p.from-here h in
      record {
        instrs = p.all;
        stand = p.from_start;
        to = omega (arith, p.ends, ap (λ (x : List Instr). length (encodings x)) none);
        bytes = nothing writing ∙ ap (λ (x : List Instr). put writing out to (encodings x)) (sym none) ∙ p.same;
      }
    where
      nothing : (t : Bool) → out ≡ put t out to []
      nothing true = refl
      nothing false = refl

  module _ (h : at < length s) {d : Decoded} (e : d ≡ decode_in ver s at) where
    here : Front ver s at p.left
    here = first p.from-here h

    known-decodes : decode_in ver s at ≡ decode_at ver s at
    known-decodes = rw p.versioned

    is_found : d ≡ found here.size here.instr
    is_found = e ∙ known-decodes ∙ stands-decodes ver s at here.instr here.size here.stands

    is-there : Stands ver s at d.instr d.len
    is-there = subst (λ (x : Decoded). Stands ver s at x.instr x.len) (sym is_found) here.stands

    no-fault : fault ver d.instr ≡ DONE
    no-fault = rw p.versioned (stands-encodes is-there).no-fault

    pub goes_on : at < at + d.len
    goes_on = omega (arith, stands-some is-there)

    pub stays : at + d.len ≤ length s
    stays = stands-inside is-there

    left_is : p.left ≡ d.instr ∷ here.rest
    left_is = here.list ∙ ap (λ (x : Decoded). x.instr ∷ here.rest) (sym is_found)

    lengths : to + (length (encoding d.instr) + length (encodings here.rest)) ≡ start + length (encodings p.all)
    lengths =
        ap (λ (x : ℕ). to + x)
        (sym (length-append (encoding d.instr) (encodings here.rest)) ∙ ap (λ (x : List Instr). length (encodings x)) (sym left_is))
        ∙ p.ends

    no_longer : to + length (encoding d.instr) ≤ at + d.len
    no_longer = omega (arith, p.less, (stands-encodes is-there).shorter)

    pub adds : {l : ℕ} → l ≡ length (encoding d.instr) → to + l ≤ length s
    adds k = omega (arith, k, no_longer, stays)

    step : (l : ℕ) (out' : List ℕ) → l ≡ length (encoding d.instr) → out' ≡ put writing out to (encoding d.instr)
        → Passing ver s start writing out₀ out' (at + d.len) (to + l)
    step l out' k b =
        let i = d.instr in
        let q = ap length b ∙ length-put writing out to (encoding i) in
        record {
          versioned = p.versioned;
          all = p.all;
          left = here.rest;
          from_start = p.from_start;
          from-here = subst (λ (x : Decoded). Instructions ver s (at + x.len) here.rest) (sym is_found) here.after;
          less = omega (arith, k, no_longer);
          ends = omega (arith, k, lengths);
          room = λ t. omega (arith, q, p.room t);
          same =
              ap₂ (λ (x : List ℕ) (y : ℕ). put writing x (to + y) (encodings here.rest)) b k
              ∙ put-append writing (encoding i) out (encodings here.rest) to
              ∙ ap (λ (x : List Instr). put writing out to (encodings x)) (sym left_is)
              ∙ p.same;
          long = q ∙ p.long;
        }

    -- only counted
    pub counts-on : writing ≡ false → {l : ℕ} → l ≡ length (encoding d.instr) → Passing ver s start writing out₀ out (at + d.len) (to + l)
    counts-on f {l} k = step l out k (rw f refl)

    -- written
    module _ (t : writing ≡ true) where
      has_room : to + length (encoding d.instr) ≤ length out
      has_room = omega (arith, lengths, p.room t)

      pub begins-inside : to ≤ length out
      begins-inside = omega (arith, has_room)

      abbrev part : List ℕ
      part = take (length out - to) (drop to out)

      fits : length (encoding d.instr) ≤ length part
      fits = omega (arith, has_room, length-take (length out - to) (drop to out), length-drop to out)

      module _ {r : Encoded} {tail : List ℕ} (a : r ≡ encoded ver d.instr part) (b : tail ≡ encoded_in ver d.instr part) where
        pub adds-len : r.len ≡ length (encoding d.instr)
        unfolding encoded
        adds-len =
            let i = d.instr in
            ap (λ (x : Encoded). x.len) a ∙ rw (eq-eqb (fault ver i) DONE no-fault, le-leb (length (encoding i)) (length part) fits)

        wrote : put_mid to (length out - to) out tail ≡ sets out to (encoding d.instr)
        unfolding encoded_in
        wrote =
            let i = d.instr in
            let c : tail ≡ encoding i ++ drop (length (encoding i)) part =
            b ∙ rw (eq-eqb (fault ver i) DONE no-fault, le-leb (length (encoding i)) (length part) fits) in
            ap (put_mid to (length out - to) out) c ∙ part-sets out (encoding i) to (length out - to) begins-inside refl (omega (arith, has_room))

        pub writes-on : Passing ver s start writing out₀ (put_mid to (length out - to) out tail) (at + d.len) (to + r.len)
        writes-on = step r.len (put_mid to (length out - to) out tail) adds-len (wrote ∙ rw t refl)
