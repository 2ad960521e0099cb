use mathlib.Core.Path.{sym, ◌∙◌}
use native.Mathlib.Omega.{arith}
use borrow.Author.Tests.{lt-ltb}
use Rattle.image.specs.Image.{place_in}
use Rattle.image.proofs.Parts.{two-number, four-number}
use Rattle.image.proofs.Showing.{place_read}
use Rattle.image.proofs.picture.place_in.Goals as goal

pub returns-then-image-lt-BYTES : goal.returns-then-image-lt-BYTES
unfolding place_in
returns-then-image-lt-BYTES c = rw (lt-ltb _ _ c.if-image-lt-BYTES.true)

pub returns : goal.returns
returns c =
    let b = c.args.image.now in
    omega (arith, c.from_le_bytes.ensures, four-number b 5 (omega arith), two-number b 5 (omega arith), two-number b 7 (omega arith))
    ∙ sym (place_read b c.if-image-lt-BYTES.false)
