-- A strip that keeps the rules: from a sound state every block that is open finds its end, so every forward branch does.
use Prim.Native.Nat.{ℕ}
use mathlib.Core.List.{List}
use Rattle.rules.specs.Typing.{Frame}
use Rattle.rules.specs.Strip.{Valid}
use Rattle.standard.specs.Standard.{Label, Config}
use Rattle.standard.specs.Safety.{Nested, outermost, inside, Sound, AllEnd}
use Rattle.standard.proofs.Unwinding.{finds-end}

nested-end : {s : List ℕ} (v : Valid s) {fs : List Frame} {ls : List Label} → Nested s v.header fs ls → AllEnd s v.header ls
nested-end v (outermost a b) = tt
nested-end v (inside a b c d e n) = let to = finds-end v e in ((to.place, to.found), nested-end v n)

pub branches-end : {s : List ℕ} (v : Valid s) (c : Config) → Sound s v.header c → AllEnd s v.header c.labels
branches-end v c sound = nested-end v sound.fits.nested
