-- Operands taken and results left, by the number of a signature or by numbers of their own.
use Prim.Native.Nat.{ℕ, ◌+◌, ◌/◌, ◌%◌, ◌^◌, ◌≤◌, ◌<◌}
use mathlib.Core.Path.{◌≡◌, refl, sym, ap, subst, ◌∙◌}
use mathlib.Core.Bool.{Bool}
use mathlib.Core.List.{List, [], ◌∷◌, ◌++◌, map, reverse, append-nil, append_assoc}
use mathlib.Core.Option.{some}
use native.Mathlib.Omega.{arith}
use lib.ListN.{length, set, length-append, length-reverse}
use Rattle.std.specs.Prelude.{Some, None, Ok, Err}
use Rattle.std.specs.declared.result.Result.{Result}
use Rattle.card.specs.Card.{OPERAND, DEEP}
use Rattle.limits.specs.Limits.{stack_limit}
use Rattle.operation.specs.Vector.{number}
use Rattle.opcode.specs.Kind.{Kind, kind_byte}
use Rattle.opcode.specs.Effect.{◌⇒◌}
use Rattle.opcode.specs.Number.{packed}
use Rattle.opcode.proofs.Effects.{kind-range}
use Rattle.rules.specs.Typing.{Frame, Has}
use Rattle.checker.specs.Walk.{KindBytes}
use Rattle.checker.specs.Inner.Stack.{Top, Under, Small, Leaves, too_many, left as left-all, Applies, lacks, over, fits}
use Rattle.checker.proofs.Held.{held_more}
use Rattle.checker.proofs.Unders.{under-below, part, under_none}
use Rattle.checker.proofs.Digits.{three}

module _ {ins outs : List Kind} {effect : ℕ} (small : Small ins outs) (is : packed (some (ins ⇒ outs)) ≡ effect) where
  bound : number (map kind_byte (reverse ins)) < 2 ^ 24
  bound = three (reverse ins) (omega (arith, length-reverse ins, small.few))

  -- the number's low bytes are the operands, and the highest is the result
  pub low-bytes : number (map kind_byte (reverse ins)) ≡ effect % 2 ^ 24
  low-bytes = omega (arith, is, bound)

  high_byte : effect / 2 ^ 24 ≡ number (map kind_byte outs)
  high_byte = omega (arith, is, bound)

  none_left : (os : List Kind) → outs ≡ os → effect / 2 ^ 24 ≡ 0 → outs ≡ []
  none_left [] e z = e
  none_left (k ∷ os) e z = absurd (let no : ⊥ = omega (arith, high_byte, ap (λ (x : List Kind). number (map kind_byte x)) e, kind-range k) in no)

  one_left : (os : List Kind) → outs ≡ os → (effect / 2 ^ 24 ≡ 0 → ⊥) → (k : Kind) × (outs ≡ k ∷ []) × (effect / 2 ^ 24 ≡ kind_byte k)
  one_left [] e z = absurd (z (high_byte ∙ ap (λ (x : List Kind). number (map kind_byte x)) e))
  one_left (k ∷ []) e z = (k, e, omega (arith, high_byte, ap (λ (x : List Kind). number (map kind_byte x)) e))
  one_left (k ∷ j ∷ os) e z = absurd (let no : ⊥ = omega (arith, small.one, ap length e) in no)

  module _ {outer : List Kind} {f : Frame} {kinds : List ℕ} {depth floor base : ℕ} {dead : Bool} (t : Top kinds depth floor dead outer f) (u : Under f ins floor (Some base)) where
    pub applies-none : base ≤ stack_limit → effect / 2 ^ 24 ≡ 0 → Applies outer f ins outs kinds (Ok base)
    applies-none b z =
        let it = under-below u refl in
        let same : it.0 ++ outs ≡ it.0 = ap (λ (x : List Kind). it.0 ++ x) (none_left outs refl z) ∙ append-nil it.0 in
        let whole : outer ++ (it.0 ++ outs) ≡ outer ++ it.0 = ap (λ (x : List Kind). outer ++ x) same in
        let held = subst (λ (n : ℕ). KindBytes kinds n (outer ++ it.0)) it.2 (part t it.1) in
        fits it.0 it.1 (omega (arith, ap length whole, held.many)) (subst (KindBytes kinds base) (sym whole) held)

    pub applies-over : {after : List ℕ} → (effect / 2 ^ 24 ≡ 0 → ⊥) → base ≡ stack_limit → Applies outer f ins outs after (Err DEEP)
    applies-over z b =
        let it = under-below u refl in
        over it.0 it.1 (omega (arith, it.2, t.floor_is, length-append outer (it.0 ++ outs), length-append it.0 outs, ap length (one_left outs refl z).1))

    pub applies-one : (effect / 2 ^ 24 ≡ 0 → ⊥) → length kinds ≡ stack_limit → base < stack_limit → Applies outer f ins outs (set kinds base (effect / 2 ^ 24)) (Ok (base + 1))
    applies-one z long b =
        let it = under-below u refl in
        let k = one_left outs refl z in
        let held = subst (λ (n : ℕ). KindBytes kinds n (outer ++ it.0)) it.2 (part t it.1) in
        let more : KindBytes (set kinds base (effect / 2 ^ 24)) (base + 1) ((outer ++ it.0) ++ outs) = rw (k.1, k.2) (held_more held (omega arith) k.0) in
        let whole = subst (KindBytes (set kinds base (effect / 2 ^ 24)) (base + 1)) (append_assoc outer it.0 outs) more in
        fits it.0 it.1 (omega (arith, whole.many)) whole

-- they are not there
pub applies-lacks : {outer ins outs : List Kind} {f : Frame} {floor : ℕ} {after : List ℕ} → Under f ins floor None → Applies outer f ins outs after (Err OPERAND)
applies-lacks u = lacks (under_none u refl)

-- of any kinds
module _ {ins outs outer : List Kind} {f : Frame} {kinds after : List ℕ} {depth floor base : ℕ} {dead : Bool}
    (t : Top kinds depth floor dead outer f) (u : Under f ins floor (Some base)) where
  by-leaving : {r : Result ℕ ℕ} (below : List Kind) → Has f below ins → Leaves (outer ++ below) outs after r → Applies outer f ins outs after r
  by-leaving below h (too_many big) = over below h (subst (λ (x : List Kind). stack_limit < length x) (append_assoc outer below outs) big)
  by-leaving below h (left-all {d} small g) =
      fits below h (subst (λ (x : List Kind). length x ≤ stack_limit) (append_assoc outer below outs) small) (subst (KindBytes after d) (append_assoc outer below outs) g)

  pub exchanges : {r : Result ℕ ℕ} → ((below : List Kind) → KindBytes kinds base below → Leaves below outs after r) → Applies outer f ins outs after r
  exchanges left =
      let it = under-below u refl in
      by-leaving it.0 it.1 (left (outer ++ it.0) (subst (λ (n : ℕ). KindBytes kinds n (outer ++ it.0)) it.2 (part t it.1)))
