-- At a place that the walk over a strip has reached an instruction stands, and what was fetched is that instruction.
use Prim.Native.Nat.{ℕ, ◌+◌, ◌≤◌}
use mathlib.Core.Path.{◌≡◌, refl, sym, ap, subst, ◌∙◌}
use mathlib.Core.List.{List, ◌++◌}
use native.Mathlib.Omega.{arith}
use lib.ListN.{length, drop, get_or}
use lib.Seq.{sets-eq}
use Rattle.limits.specs.Limits.{file_limit}
use Rattle.opcode.specs.Kind.{Kind}
use Rattle.opcode.specs.Table.{Code, latest, carried}
use Rattle.opcode.specs.Number.{id_of, row_of}
use Rattle.opcode.specs.Entry.{entry_of}
use Rattle.opcode.proofs.Id.{row-of-id}
use Rattle.opcode.proofs.Versions.{row-latest}
use Rattle.instr.specs.declared.Instr.{Instr}
use Rattle.instr.specs.declared.Fetched.{Fetched}
use Rattle.instr.specs.Layout.{found, row_in}
use Rattle.instr.specs.Decode.{decode_in}
use Rattle.instr.specs.Fetch.{fetch_of}
use Rattle.instr.proofs.Decodes.{stands-decodes}
use Rattle.instr.proofs.Stands.{stands-once}
use Rattle.instr.proofs.Ranges.{stands-inside}
use Rattle.rules.specs.Header.{Header, Declares}
use Rattle.rules.specs.Typing.{all_values}
use Rattle.rules.specs.Strip.{Reads}
use Rattle.rules.proofs.Headers.{decodes-known}
use Rattle.rules.proofs.Strips.{header-counts}
use Rattle.rules.proofs.Onward.{declared}
use Rattle.checker.specs.declared.turns.State.{State}
use Rattle.checker.specs.Walk.{KindBytes, Walks, Steps}
use Rattle.checker.proofs.Ahead.{ahead, ahead-read}
use Rattle.listing.specs.Line.{line}
use Rattle.listing.specs.Walk.{longest, line_of, Walked}
use Rattle.listing.specs.Inner.Parts.{Adds, Shows}
use Rattle.text.proofs.Appending.{appended}

module _ {s : List ℕ} {p : ℕ} {kinds blocks : List ℕ} {state : State} (w : Walks s p kinds blocks state) where
  abbrev h : Header
  h = w.valid.header

  declares : Declares s h
  declares = declared w.reached

  pub counts-inside : 8 ≤ length s
  counts-inside = header-counts declares

  version_is : get_or s 3 0 ≡ h.version
  version_is = ap (λ (x : List ℕ). get_or x 3 0) declares.bytes

  its : (i : Instr) × (c : Code) × (n : ℕ) × Reads h.version s p i c n
  its = ahead-read (ahead w.valid w.reached)

  module _ {f : Fetched} (e : f ≡ fetch_of (decode_in (get_or s 3 0) s p)) where
    abbrev i : Instr
    i = f.decoded.instr

    is_found : f ≡ fetch_of (found its.2 its.0)
    is_found =
        e ∙ ap (λ (v : ℕ). fetch_of (decode_in v s p)) version_is
        ∙ ap fetch_of (decodes-known h.version declares.versioned s p ∙ stands-decodes h.version s p its.0 its.2 its.3.stands)

    reads : Reads h.version s p i its.1 f.decoded.len
    reads = subst (λ (x : Fetched). Reads h.version s p x.decoded.instr its.1 x.decoded.len) (sym is_found) its.3

    pub inside : (p + f.decoded.len ≤ length s) × (length s ≤ file_limit)
    inside = (stands-inside reads.stands, declares.sized)

    -- what the version has the latest has
    row_is : row_in latest i ≡ carried its.1
    row_is = row-latest h.version i.first i.number reads.does

    pub shows : {room : ℕ} → longest ≤ room → Shows kinds state.depth f.id f.entry i room
    shows enough =
        record {
          stack = all_values w.frames;
          holds = w.framed.holds;
          most = omega (arith, w.framed.within.values, w.framed.holds.many);
          typed = reads.stands.typed;
          code = its.1;
          row = row_is;
          id_is = subst (λ (x : Fetched). x.id ≡ id_of x.decoded.instr.first x.decoded.instr.number) (sym e) refl;
          entry_is =
              subst (λ (x : Fetched). x.entry ≡ entry_of (row_of (id_of x.decoded.instr.first x.decoded.instr.number))) (sym e) refl
              ∙ ap entry_of (row-of-id i.first i.number reads.stands.typed.first ∙ row_is);
          enough = enough;
        }

-- the line and the step are of the same instruction
pub walked : {s : List ℕ} {p : ℕ} {kinds blocks kinds' blocks' : List ℕ} {state state' : State} (m : Steps s p kinds blocks state kinds' blocks' state')
    → {f : Fetched} → f ≡ fetch_of (decode_in (get_or s 3 0) s p) → {text text' : List ℕ} {len at : ℕ} → longest ≤ length text
    → ((κs : List Kind) → KindBytes kinds state.depth κs → Adds longest (line p κs f.decoded.instr) text 0 len text') → at ≡ p + f.decoded.len
    → Walked s p kinds blocks state text (record { at = at; state = state'; len = len }) kinds' blocks' text'
walked {s} {p} m {f} e {text} {text'} {len} room adds q =
    let v = m.before.valid.header.version in
    let same = stands-once v s p f.decoded.instr m.instr f.decoded.len m.size (reads m.before e).stands m.stands in
    let κs = all_values m.before.frames in
    let a = subst (λ (x : Instr). Adds longest (line p κs x) text 0 len text') same.0 (adds κs m.before.framed.holds) in
    let put = appended a.appends (omega (arith, a.short)) in
    let long : len ≡ length (line_of m) = omega (arith, put.0) in
    let after : 0 + length (line_of m) ≡ len = omega (arith, put.0) in
    record {
      steps = m;
      at = q ∙ ap (λ (n : ℕ). p + n) same.1;
      len = long;
      bytes = put.1 ∙ sets-eq (line_of m) text 0 (omega (arith, a.short)) ∙ ap (λ (k : ℕ). line_of m ++ drop k text) after;
    }
