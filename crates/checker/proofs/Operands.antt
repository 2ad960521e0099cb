-- The operands, popped one by one from the top.
use Prim.Native.Nat.{ℕ, ◌+◌, ◌-◌, ◌/◌, ◌%◌, ◌≤◌}
use mathlib.Core.Path.{◌≡◌, refl, sym, ap, subst, ◌∙◌}
use mathlib.Core.Bool.{Bool, true, false}
use mathlib.Core.List.{List, [], ◌∷◌, ◌++◌, map, reverse, reverse_aux, reverse_aux-eq, reverse-reverse, append-nil, append_assoc}
use native.Mathlib.Omega.{arith}
use lib.ListN.{length, get_or, length-append, length-reverse_aux}
use Rattle.std.specs.Prelude.{Some, None}
use Rattle.operation.specs.Vector.{number}
use Rattle.opcode.specs.Kind.{Kind, kind_byte}
use Rattle.opcode.proofs.Effects.{kind-once, kind-range}
use Rattle.rules.specs.Typing.{Frame, Has, all_known, any}
use Rattle.rules.proofs.Lists.{ends-once}
use Rattle.checker.specs.Inner.Stack.{Top, Under, under, missing}
use Rattle.checker.proofs.Held.{split-last, held_at}

-- of the operands some are still to pop, the top one first, and some are popped
pub record Popped (κs ins : List Kind) (floor left base : ℕ) : Type 0 where
  pub ahead : List Kind
  pub taken : List Kind
  pub below : List Kind
  pub parts : ins ≡ reverse_aux ahead taken
  pub stack : κs ≡ below ++ taken
  pub digits : number (map kind_byte ahead) ≡ left
  pub many : floor + length below ≡ base

pub record Popping (operands : ℕ) (kinds : List ℕ) (depth floor : ℕ) (dead : Bool) (left base : ℕ) : Type 0 where
  pub most : base ≤ depth
  pub least : floor ≤ base
  pub so_far : (outer ins : List Kind) (f : Frame) → Top kinds depth floor dead outer f → number (map kind_byte (reverse ins)) ≡ operands → Popped f.values ins floor left base

pub pops : (operands : ℕ) (kinds : List ℕ) (depth floor : ℕ) (dead : Bool) → floor ≤ depth → Popping operands kinds depth floor dead operands depth
pops operands kinds depth floor dead l =
    record {
      most = omega arith;
      least = l;
      so_far = λ outer ins f t e. record {
        ahead = reverse ins;
        taken = [];
        below = f.values;
        parts = sym (reverse-reverse ins);
        stack = sym (append-nil f.values);
        digits = e;
        many = omega (arith, t.holds.many, length-append outer f.values, t.floor_is);
      };
    }

-- what the next operand and the top value are
record Next (κs ins : List Kind) (kinds : List ℕ) (floor left base : ℕ) : Type 0 where
  operand : Kind
  value : Kind
  ahead : List Kind
  taken : List Kind
  below : List Kind
  parts : ins ≡ reverse_aux ahead (operand ∷ taken)
  stack : κs ≡ below ++ (value ∷ taken)
  digit : kind_byte operand ≡ left % 256
  digits : number (map kind_byte ahead) ≡ left / 256
  byte : get_or kinds (base - 1) 0 ≡ kind_byte value
  many : floor + length below ≡ base - 1

-- at the floor
none_below : (floor base : ℕ) (below : List Kind) → floor + length below ≡ base → base ≡ floor → below ≡ []
none_below floor base [] m z = refl
none_below floor base (k ∷ below) m z = absurd (let no : ⊥ = omega arith in no)

-- what is known and what is asked agree from the top down
both : {f : Frame} {below ins : List Kind} → Has f below ins → (x : List Kind) × (y : List Kind) × (x ++ f.values ≡ y ++ ins)
both {below = below} (all_known e) = ([], below, e)
both (any u d e) = (u, [], e)

module _ {ins outer : List Kind} {f : Frame} {kinds : List ℕ} {depth floor left base : ℕ} {dead : Bool} (t : Top kinds depth floor dead outer f) (some_left : left ≡ 0 → ⊥) where
  next_of : (ahead taken below : List Kind) → ins ≡ reverse_aux ahead taken → f.values ≡ below ++ taken → number (map kind_byte ahead) ≡ left → floor + length below ≡ base
      → floor ≤ base → (base ≡ floor → ⊥) → Next f.values ins kinds floor left base
  next_of [] taken below e g d m l b = absurd (some_left (sym d))
  next_of (k ∷ ahead) taken below e g d m l b =
      let last = split-last below (omega arith) in
      let here : f.values ≡ last.0 ++ (last.1 ∷ taken) = g ∙ ap (λ (x : List Kind). x ++ taken) last.2 ∙ append_assoc last.0 (last.1 ∷ []) taken in
      let whole : outer ++ f.values ≡ (outer ++ last.0) ++ (last.1 ∷ taken) = ap (λ (x : List Kind). outer ++ x) here ∙ sym (append_assoc outer last.0 (last.1 ∷ taken)) in
      let short : floor + length last.0 ≡ base - 1 = omega (arith, ap length last.2, length-append last.0 (last.1 ∷ [])) in
      let long : length (outer ++ last.0) ≡ base - 1 = omega (arith, short, length-append outer last.0, t.floor_is) in
      record {
        operand = k;
        value = last.1;
        ahead = ahead;
        taken = taken;
        below = last.0;
        parts = e;
        stack = here;
        digit = omega (arith, kind-range k);
        digits = omega (arith, kind-range k);
        byte = ap (λ (x : ℕ). get_or kinds x 0) (sym long) ∙ held_at t.holds (outer ++ last.0) taken last.1 whole;
        many = short;
      }

  next : Popped f.values ins floor left base → floor ≤ base → (base ≡ floor → ⊥) → Next f.values ins kinds floor left base
  next p l b = next_of p.ahead p.taken p.below p.parts p.stack p.digits p.many l b

  any-under : Popped f.values ins floor left base → base ≡ floor → f.dead ≡ true → Has f [] ins
  any-under p z d =
      let same : f.values ≡ p.taken = p.stack ∙ ap (λ (x : List Kind). x ++ p.taken) (none_below floor base p.below p.many z) in
      any (reverse p.ahead) d (ap (λ (x : List Kind). reverse p.ahead ++ x) same ∙ sym (p.parts ∙ reverse_aux-eq p.ahead p.taken))

  too_few : (ahead taken below : List Kind) → ins ≡ reverse_aux ahead taken → f.values ≡ below ++ taken → number (map kind_byte ahead) ≡ left → floor + length below ≡ base → base ≡ floor
      → (b : List Kind) → f.values ≡ b ++ ins → ⊥
  too_few [] taken below e g d m z b h = some_left (sym d)
  too_few (k ∷ ahead) taken below e g d m z b h =
      omega (
        arith,
        ap length e,
        length-reverse_aux ahead (k ∷ taken),
        ap length g,
        length-append below taken,
        ap length h,
        length-append b ins,
      )

  none-under : Popped f.values ins floor left base → base ≡ floor → f.dead ≡ false → (b : List Kind) → Has f b ins → ⊥
  none-under p z d b (all_known e) = too_few p.ahead p.taken p.below p.parts p.stack p.digits p.many z b e
  none-under p z d b (any u d' e) = let no : ◌≡◌ {A = ℕ} 0 1 = cc (sym d ∙ d') in omega arith

module _ {operands : ℕ} {kinds : List ℕ} {depth floor left base : ℕ} {dead : Bool} (w : Popping operands kinds depth floor dead left base) where
  pub pops-on : (left ≡ 0 → ⊥) → (base ≡ floor → ⊥) → get_or kinds (base - 1) 0 ≡ left % 256 → Popping operands kinds depth floor dead (left / 256) (base - 1)
  pops-on l b same =
      record {
        most = omega (arith, w.most);
        least = omega (arith, w.least, b);
        so_far = λ outer ins f t e.
            let n = next t l (w.so_far outer ins f t e) w.least b in
            let it : n.value ≡ n.operand = kind-once (sym n.byte ∙ same ∙ sym n.digit) in
            record {
              ahead = n.ahead;
              taken = n.operand ∷ n.taken;
              below = n.below;
              parts = n.parts;
              stack = n.stack ∙ ap (λ (x : Kind). n.below ++ (x ∷ n.taken)) it;
              digits = n.digits;
              many = n.many;
            };
      }

  module _ (outer ins : List Kind) (f : Frame) (t : Top kinds depth floor dead outer f) (e : number (map kind_byte (reverse ins)) ≡ operands) where
    -- in dead code the others are any
    pub any-there : (left ≡ 0 → ⊥) → base ≡ floor → dead ≡ true → Under f ins floor (Some floor)
    any-there l b d =
        let same : floor + length {A = Kind} [] ≡ floor = omega arith in
        subst (λ (n : ℕ). Under f ins floor (Some n)) same (under [] (any-under t l (w.so_far outer ins f t e) b (t.dead_is ∙ d)))

    -- no value is there, or another kind
    pub none-there : (left ≡ 0 → ⊥) → base ≡ floor → dead ≡ false → Under f ins floor None
    none-there l b d = missing (none-under t l (w.so_far outer ins f t e) b (t.dead_is ∙ d))

    pub other-there : (left ≡ 0 → ⊥) → (base ≡ floor → ⊥) → (get_or kinds (base - 1) 0 ≡ left % 256 → ⊥) → Under f ins floor None
    other-there l b other = missing (λ c g. other (differs c g))
      where
        differs : (c : List Kind) → Has f c ins → get_or kinds (base - 1) 0 ≡ left % 256
        differs c h =
            let n = next t l (w.so_far outer ins f t e) w.least b in
            let g = both h in
            let whole : (g.0 ++ n.below) ++ (n.value ∷ n.taken) ≡ (g.1 ++ reverse n.ahead) ++ (n.operand ∷ n.taken) =
            append_assoc g.0 n.below (n.value ∷ n.taken) ∙ ap (λ (x : List Kind). g.0 ++ x) (sym n.stack) ∙ g.2
            ∙ ap (λ (x : List Kind). g.1 ++ x) (n.parts ∙ reverse_aux-eq n.ahead (n.operand ∷ n.taken))
            ∙ sym (append_assoc g.1 (reverse n.ahead) (n.operand ∷ n.taken)) in
            let tops = (ends-once (g.0 ++ n.below) (g.1 ++ reverse n.ahead) (n.value ∷ n.taken) (n.operand ∷ n.taken) refl whole).1 in
            let it : n.value ≡ n.operand = cc in
            n.byte ∙ ap kind_byte it ∙ n.digit

    popped-of : (ahead taken below : List Kind) → ins ≡ reverse_aux ahead taken → f.values ≡ below ++ taken → number (map kind_byte ahead) ≡ left → floor + length below ≡ base → left ≡ 0
        → Under f ins floor (Some base)
    popped-of [] taken below p g d m z = subst (λ (n : ℕ). Under f ins floor (Some n)) m (under below (all_known (g ∙ ap (λ (x : List Kind). below ++ x) (sym p))))
    popped-of (k ∷ ahead) taken below p g d m z = absurd (let no : ⊥ = omega (arith, kind-range k) in no)

    pub all-popped : left ≡ 0 → Under f ins floor (Some base)
    all-popped z = let p = w.so_far outer ins f t e in popped-of p.ahead p.taken p.below p.parts p.stack p.digits p.many z
