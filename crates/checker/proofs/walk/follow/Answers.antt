-- The strip's own `end`, or one instruction that is not refused.
use native.Mathlib.Omega.{arith}
use mathlib.Core.Path.{refl, sym, ◌∙◌}
use Rattle.checker.proofs.Choices.{straight-judges, as-turn}
use Rattle.checker.proofs.Walking.{inside, last_step, turn-ready, never-refused, next-step}
use borrow.Author.Rules.{rules}
use Rattle.checker.proofs.walk.follow.Goals as goal

pub bounds-strip-5 : goal.bounds-strip-5
bounds-strip-5 c = omega (arith, inside c.requires.0)

pub bounds-strip-6 : goal.bounds-strip-6
bounds-strip-6 c = omega (arith, inside c.requires.0)

pub bounds-strip-7 : goal.bounds-strip-7
bounds-strip-7 c = omega (arith, inside c.requires.0)

pub top_first-takes-requires : goal.top_first-takes-requires
top_first-takes-requires c = inside c.requires.0

pub returns-then-is_last : goal.returns-then-is_last
returns-then-is_last c =
    last_step c.requires.0 c.top_first-takes.ensures (λ j. (c.type_inv.strip j).fits) c.args.d
    c.requires.1 (sym c.is_last.ensures ∙ c.if-is_last.true)

pub straight-next-requires : goal.straight-next-requires
straight-next-requires c =
    let r = turn-ready c.requires.0 c.top_first-takes.ensures (λ j. (c.type_inv.strip j).fits)
    c.args.d c.requires.1 (sym c.is_last.ensures ∙ c.if-is_last.false) in
    (omega (arith, inside c.requires.0), r.floor_in, r.depth_in, r.kinds_long)

pub unwrap-requires : goal.unwrap-requires
unwrap-requires c =
    let tells = c.is_straight.ensures.straight c.if-is_straight.true in
    never-refused c.requires.0 c.top_first-takes.ensures (λ j. (c.type_inv.strip j).fits) c.args.d
    c.requires.1 (sym c.is_last.ensures ∙ c.if-is_last.false) (straight-judges tells c.straight-next.ensures.judges)

pub returns-then-is_straight : goal.returns-then-is_straight
returns-then-is_straight c =
    let tells = c.is_straight.ensures.straight c.if-is_straight.true in
    next-step c.requires.0 c.top_first-takes.ensures (λ j. (c.type_inv.strip j).fits) c.args.d
    c.requires.1 (sym c.is_last.ensures ∙ c.if-is_last.false) (straight-judges tells c.straight-next.ensures.judges) c.unwrap.result c.unwrap.ensures
    (let k = rw c.unwrap.ensures at c.straight-next.ensures.keeps in (k.0, refl)) (search rules) refl

pub turn-next-requires : goal.turn-next-requires
turn-next-requires c = (
  as-turn c.if-is_straight.false c.is_straight.ensures,
  turn-ready c.requires.0 c.top_first-takes.ensures
      (λ j. (c.type_inv.strip j).fits) c.args.d c.requires.1 (sym c.is_last.ensures ∙
      c.if-is_last.false),
)

pub unwrap-requires-2 : goal.unwrap-requires-2
unwrap-requires-2 c =
    never-refused c.requires.0 c.top_first-takes.ensures (λ j. (c.type_inv.strip j).fits) c.args.d
    c.requires.1 (sym c.is_last.ensures ∙ c.if-is_last.false) (c.turn-next.ensures.by_index _ _)

pub returns : goal.returns
returns c =
    next-step c.requires.0 c.top_first-takes.ensures (λ j. (c.type_inv.strip j).fits) c.args.d
    c.requires.1 (sym c.is_last.ensures ∙ c.if-is_last.false) (c.turn-next.ensures.by_index _ _) c.unwrap-2.result c.unwrap-2.ensures
    (rw c.unwrap-2.ensures at c.turn-next.ensures.keeps) (search rules) (search rules)
