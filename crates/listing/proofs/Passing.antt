-- A pass over all lines: what has been told, before what is still to be told.
use Prim.Native.Nat.{ℕ, ◌+◌, ◌*◌, ◌≤◌, ◌<◌}
use mathlib.Core.Path.{◌≡◌, refl, sym, ap, ap₂, subst, ◌∙◌}
use mathlib.Core.List.{List, [], ◌++◌}
use native.Mathlib.Omega.{arith}
use lib.ListN.{length, take, length-append}
use lib.Seq.{sets}
use Rattle.limits.specs.Limits.{file_limit, stack_limit, nest_limit}
use Rattle.text.specs.Append.{Appends}
use Rattle.buffer.proofs.Writing.{sets-append}
use Rattle.text.proofs.Appending.{appended, length-kept}
use Rattle.instr.specs.declared.Instr.{Instr}
use Rattle.instr.specs.Layout.{Stands}
use Rattle.instr.proofs.Stands.{stands-once}
use Rattle.instr.proofs.Ranges.{stands-some, stands-inside}
use Rattle.rules.specs.Header.{Header, header_bytes}
use Rattle.rules.specs.Typing.{Frame, all_values}
use Rattle.rules.specs.Strip.{Reaches, Valid}
use Rattle.rules.proofs.Headers.{declares-once}
use Rattle.rules.proofs.Onward.{declared, reached-once}
use Rattle.checker.specs.declared.turns.State.{State}
use Rattle.checker.specs.Walk.{start_of, outset}
use Rattle.checker.proofs.Starts.{starts-at}
use Rattle.listing.specs.Line.{line}
use Rattle.listing.specs.Listing.{Lines, no_more, one_more, Listing}
use Rattle.listing.specs.Walk.{longest, line_of, Walked}
use Rattle.listing.specs.declared.Next.{Next}
use Rattle.listing.specs.Inner.Pass.{Passed}
use Rattle.listing.proofs.Lines.{listed}
use Rattle.listing.proofs.Following.{Follows, follow-begins, no_longer, line-is, onward, follow-on}

pub record Passing (s out₀ out kinds blocks text : List ℕ) (state : State) (at to : ℕ) : Type 0 where
  pub all : List ℕ
  pub left : List ℕ
  pub listing : Listing s all
  pub here : Lines s listing.valid.header at left
  pub follows : Follows s kinds blocks text state at
  pub ends : to + length left ≡ length all
  pub same : length all ≤ length out₀ → sets out to left ≡ sets out₀ 0 all
  pub long : length out ≡ length out₀
  pub few : to ≤ longest * at
  pub inside : (at ≤ length s) × (length s ≤ file_limit)

pub begins : {s : List ℕ} (v : Valid s) {at : ℕ} {state : State} (out kinds blocks text : List ℕ) → at ≡ start_of s → state ≡ outset
    → length kinds ≡ stack_limit → length blocks ≡ nest_limit
    → length text ≡ longest → Passing s out out kinds blocks text state at 0
begins {s} v {at} out kinds blocks text e o k b room =
    let l = listed v in
    let h = l.1.valid.header in
    let d = declared l.1.valid.reached in
    let start : at ≡ length (header_bytes h) = starts-at e h d in
    record {
      all = l.0;
      left = l.0;
      listing = l.1;
      here = subst (λ (p : ℕ). Lines s h p l.0) (sym start) l.1.lines;
      follows = follow-begins v kinds blocks text e o k b room;
      ends = omega arith;
      same = λ h. refl;
      long = refl;
      few = omega arith;
      inside = (omega (arith, start, ap length d.bytes, length-append (header_bytes h) d.body), d.sized);
    }

-- the first of the lines that are left
record Front (s : List ℕ) (h : Header) (at : ℕ) (left : List ℕ) : Type 0 where
  frames : List Frame
  instr : Instr
  size : ℕ
  rest : List ℕ
  reached : Reaches s h at frames
  stands : Stands h.version s at instr size
  text : left ≡ line at (all_values frames) instr ++ rest
  after : Lines s h (at + size) rest

first : {s : List ℕ} {h : Header} {at : ℕ} {left : List ℕ} → Lines s h at left → at < length s → Front s h at left
first (no_more e) l = absurd (let z : ⊥ = omega (arith, e) in z)
first (one_more {n = n} {fs = fs} {i = i} {text = text} r w m) l =
    record { frames = fs; instr = i; size = n; rest = text; reached = r; stands = w; text = refl; after = m }

none_left : {s : List ℕ} {h : Header} {at : ℕ} {left : List ℕ} → Lines s h at left → length s ≤ at → left ≡ []
none_left (no_more e) l = refl
none_left (one_more r w m) l = absurd (let z : ⊥ = omega (arith, stands-some w, stands-inside w) in z)

module _ {s out₀ out kinds blocks text : List ℕ} {state : State} {at to : ℕ} (p : Passing s out₀ out kinds blocks text state at to) where
  pub passes : length s ≤ at → Passed s out₀ to out
  passes l =
      let none = none_left p.here l in
      record {
        text = p.all;
        listing = p.listing;
        counted = omega (arith, p.ends, ap length none);
        written = λ h. ap (sets out to) (sym none) ∙ p.same h;
      }

  module _ (l : at < length s) {r : Next} {kinds' blocks' text' : List ℕ} (w : Walked s at kinds blocks state text r kinds' blocks' text')
      (kept : length text' ≡ length text) where
    abbrev told : List ℕ
    told = line_of w.steps

    head : Front s p.listing.valid.header at p.left
    head = first p.here l

    same-header : w.steps.before.valid.header ≡ p.listing.valid.header
    same-header =
        declares-once s w.steps.before.valid.header p.listing.valid.header (declared w.steps.before.valid.reached)
        (declared p.listing.valid.reached)

    same-frames : head.frames ≡ w.steps.before.frames
    same-frames = reached-once head.reached (subst (λ (h : Header). Reaches s h at w.steps.before.frames) same-header w.steps.before.reached)

    same-instr : (head.instr ≡ w.steps.instr) × (head.size ≡ w.steps.size)
    same-instr =
        stands-once p.listing.valid.header.version s at head.instr w.steps.instr head.size w.steps.size head.stands
        (subst (λ (h : Header). Stands h.version s at w.steps.instr w.steps.size) same-header w.steps.stands)

    left_is : p.left ≡ told ++ head.rest
    left_is = head.text ∙ ap₂ (λ (fs : List Frame) (i : Instr). line at (all_values fs) i ++ head.rest) same-frames same-instr.0

    ahead : to + r.len ≤ longest * r.at
    ahead = omega (arith, p.few, no_longer p.follows l w kept, onward p.follows l w kept)

    pub adds : to + r.len ≤ longest * file_limit
    adds = omega (arith, ahead, onward p.follows l w kept, p.inside)

    pub goes_on : length kinds' ≡ length kinds → length blocks' ≡ length blocks → {out' : List ℕ} {n : ℕ} → Appends (take r.len text') out to n out'
        → Passing s out₀ out' kinds' blocks' text' r.state r.at (to + r.len)
    goes_on k b {out'} {n} q =
        let a : Appends told out to n out' = subst (λ (x : List ℕ). Appends x out to n out') (line-is p.follows l w kept) q in
        let sum : length p.left ≡ length told + length head.rest = ap length left_is ∙ length-append told head.rest in
        record {
          all = p.all;
          left = head.rest;
          listing = p.listing;
          here = subst (λ (k : ℕ). Lines s p.listing.valid.header k head.rest) (ap (λ (k : ℕ). at + k) same-instr.1 ∙ sym w.at) head.after;
          follows = follow-on p.follows l w kept k b;
          ends = omega (arith, p.ends, w.len, sum);
          same = λ h.
              let put = appended a (omega (arith, p.ends, p.long, sum)) in
              ap₂ (λ (x : List ℕ) (k : ℕ). sets x (to + k) head.rest) put.1 w.len
              ∙ sets-append told out head.rest to
              ∙ ap (sets out to) (sym left_is)
              ∙ p.same h;
          long = length-kept a ∙ p.long;
          few = ahead;
          inside = ((onward p.follows l w kept).1, p.inside.1);
        }
