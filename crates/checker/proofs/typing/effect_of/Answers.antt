-- By the signature, by the value on top, or by the local.
use mathlib.Core.Path.{refl, sym, ◌∙◌}
use Rattle.opcode.specs.Table.{carried}
use Rattle.opcode.proofs.Entries.{group-in, effect-in}
use Rattle.checker.proofs.Effects.{effected-signature, effected-none, effected-drop, names-local, effected-undeclared, effected-get, effected-set, effected-tee}
use Rattle.checker.proofs.typing.effect_of.Goals as goal

pub returns-then-effect-ne0 : goal.returns-then-effect-ne0
returns-then-effect-ne0 c = λ v ls outer f row o h t. effected-signature ls c.args.index v f _ (c.effect-effect.ensures ∙ effect-in (carried v) row) c.if-effect-ne0.true

pub returns-then-depth-floor : goal.returns-then-depth-floor
returns-then-depth-floor c =
    λ v ls outer f row o h t. effected-none ls c.args.index f _ t v _ (c.group-group.ensures ∙ group-in (carried v) row)
    c.if-group-eq-GROUP_DROP.true c.if-depth-floor.true refl

pub returns-then-group-eq-GROUP_DROP : goal.returns-then-group-eq-GROUP_DROP
returns-then-group-eq-GROUP_DROP c =
    λ v ls outer f row o h t. effected-drop ls c.args.index f _ t v _ (c.group-group.ensures ∙ group-in (carried v) row)
    c.if-group-eq-GROUP_DROP.true c.requires.1 c.if-depth-floor.false refl

pub returns-then-locals-n : goal.returns-then-locals-n
returns-then-locals-n c =
    λ v ls outer f row o h t.
    let names = names-local v _ _ o (c.effect-effect.ensures ∙ effect-in (carried v) row) c.if-effect-ne0.false
    (c.group-group.ensures ∙ group-in (carried v) row) c.if-group-eq-GROUP_DROP.false in
    effected-undeclared ls c.args.index f _ c.args.strip.now h v names c.if-locals-n.true refl

pub returns-in-2 : goal.returns-in-2
returns-in-2 c =
    λ v ls outer f row o h t.
    let group = c.group-group.ensures ∙ group-in (carried v) row in
    let names = names-local v _ _ o (c.effect-effect.ensures ∙ effect-in (carried v) row) c.if-effect-ne0.false group c.if-group-eq-GROUP_DROP.false in
    effected-get ls c.args.index f _ c.args.strip.now h v names c.if-locals-n.false _ refl (sym group ∙ c.in-2.is) refl

pub returns-in-3 : goal.returns-in-3
returns-in-3 c =
    λ v ls outer f row o h t.
    let group = c.group-group.ensures ∙ group-in (carried v) row in
    let names = names-local v _ _ o (c.effect-effect.ensures ∙ effect-in (carried v) row) c.if-effect-ne0.false group c.if-group-eq-GROUP_DROP.false in
    effected-set ls c.args.index f _ c.args.strip.now h v names c.if-locals-n.false _ refl (sym group ∙ c.in-3.is) refl

pub returns-in_default : goal.returns-in_default
returns-in_default c =
    λ v ls outer f row o h t.
    let group = c.group-group.ensures ∙ group-in (carried v) row in
    let names = names-local v _ _ o (c.effect-effect.ensures ∙ effect-in (carried v) row) c.if-effect-ne0.false group c.if-group-eq-GROUP_DROP.false in
    effected-tee ls c.args.index f _ c.args.strip.now h v names c.if-locals-n.false _ refl (λ is. c.in_default.in_default-own.rest.0.1 (group ∙ is))
    (λ is. c.in_default.in_default-own.rest.1 (group ∙ is)) refl
