-- One question after the other.
use mathlib.Core.Path.{◌∙◌}
use Rattle.image.specs.Slots.{no}
use Rattle.image.proofs.Pieces.{not-marked, version-read, fronts-told}
use Rattle.image.proofs.picture.fronts.Goals as goal

pub returns-then-not-starts_with : goal.returns-then-not-starts_with
returns-then-not-starts_with c =
    no (not-marked c.args.image.now c.args.depth c.starts_with.ensures.value c.if-not-starts_with.true)

pub returns-then-word-ne-VERSION : goal.returns-then-word-ne-VERSION
returns-then-word-ne-VERSION c =
    let a = c.args in
    no (λ f. c.if-word-ne-VERSION.true (c.word.ensures ∙ version-read a.image.now a.depth f))

pub returns : goal.returns
returns c =
    fronts-told c.args.image.now c.args.depth c.requires.0 (λ k. c.type_inv.image k) c.requires.1
    c.starts_with.ensures.value c.if-not-starts_with.false _ c.word.ensures
    c.if-word-ne-VERSION.false _ c.word-deep.ensures
