-- What `list` and `next_line` promise leaves one answer, and one content of every buffer. `Post` is a function's own contract as the prover reads it.
use Prim.Native.Nat.{ℕ, ◌+◌}
use mathlib.Core.Path.{◌≡◌, sym, ap, ap₂, ◌∙◌}
use mathlib.Core.List.{List, ◌++◌}
use lib.ListN.{length, drop}
use Rattle.instr.specs.declared.Instr.{Instr}
use Rattle.rules.specs.Typing.{Frame, all_values}
use Rattle.checker.specs.declared.turns.State.{State}
use Rattle.checker.proofs.Known.{same-frames, step-instr, steps-once}
use Rattle.listing.specs.Line.{line}
use Rattle.listing.specs.Walk.{line_of, Walked}
use Rattle.listing.specs.declared.Listed.{Listed}
use Rattle.listing.specs.declared.Next.{Next}
use Rattle.listing.proofs.Answers.{lists-once}
use Rattle.listing.proofs.list.Reads as list
use Rattle.listing.proofs.next_line.Reads as next-line

pub one-listing : (κs : _) (a : _) (e e' : _) (r r' : Listed) → list.Post κs a r e → list.Post κs a r' e' → (r ≡ r') × (e.1.0.now ≡ e'.1.0.now)
one-listing κs a e e' r r' p q = lists-once p q

-- ---- one line

same_next : (a b : Next) → a.at ≡ b.at → a.state ≡ b.state → a.len ≡ b.len → a ≡ b
same_next a b at state len =
    ap₂ (λ (x : ℕ) (y : State). record { at = x; state = y; len = a.len }) at state ∙ ap (λ (x : ℕ). record { at = b.at; state = b.state; len = x }) len

walked_once : {s : List ℕ} {p : ℕ} {state : State} {kinds blocks text k k' b b' t t' : List ℕ} {r r' : Next} → Walked s p kinds blocks state text r k b t
    → Walked s p kinds blocks state text r' k' b' t' → (r ≡ r') × (k ≡ k') × (b ≡ b') × (t ≡ t')
walked_once {s} {p} {text = text} {r = r} {r' = r'} x y =
    let w = x.steps in
    let v = y.steps in
    let same = steps-once w v in
    let frames : v.before.frames ≡ w.before.frames = same-frames w.before v.before in
    let instr = step-instr w v in
    let shown : line_of w ≡ line_of v = ap₂ (λ (fs : List Frame) (i : Instr). line p (all_values fs) i) (sym frames) instr.0 in
    let at : r.at ≡ r'.at = x.at ∙ ap (λ (n : ℕ). p + n) instr.1 ∙ sym y.at in
    let len : r.len ≡ r'.len = x.len ∙ ap length shown ∙ sym y.len in (
      same_next r r' at same.2 len,
      same.0,
      same.1,
      x.bytes ∙ ap₂ (λ (l : List ℕ) (n : ℕ). l ++ drop n text) shown len ∙ sym y.bytes,
    )

pub one_line : (κs : _) (a : _) (e e' : _) (r r' : Next) → next-line.Post κs a r e → next-line.Post κs a r' e'
    → (r ≡ r') × (e.1.1.0.now ≡ e'.1.1.0.now) × (e.1.1.1.0.now ≡ e'.1.1.1.0.now)
    × (e.1.1.1.1.1.0.now ≡ e'.1.1.1.1.1.0.now)
one_line κs a e e' r r' p q = walked_once p q
