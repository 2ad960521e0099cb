-- What the functions promise leaves one answer, and one content of the buffer.
use Prim.Native.Nat.{ℕ}
use mathlib.Core.Path.{◌≡◌, refl, sym, ◌∙◌}
use mathlib.Core.Bool.{Bool}
use mathlib.Core.List.{List, map}
use Rattle.opcode.specs.Kind.{Kind, kind_byte}
use Rattle.image.specs.Slots.{Tells, yes, no}
use Rattle.image.proofs.slots.formed.Reads as formed
use Rattle.image.proofs.picture.place_in.Reads as place-in
use Rattle.image.proofs.picture.shows.Reads as shows
use Rattle.image.proofs.picture.write.Reads as write

tells-once : {P : Type 0} {r r' : Bool} → Tells P r → Tells P r' → r ≡ r'
tells-once (yes p) (yes q) = refl
tells-once (yes p) (no n) = absurd (n p)
tells-once (no n) (yes q) = absurd (n q)
tells-once (no n) (no m) = refl

-- of each function's own contract; where kinds are lent as bytes, they are kinds' bytes

pub one-formed : (κs : _) (a : _) (e e' : _) (r r' : Bool) → formed.Post κs a r e → formed.Post κs a r' e' → (ks : List Kind) → a.0.now ≡ map kind_byte ks → r ≡ r'
one-formed κs a e e' r r' p q ks h = tells-once (p ks h) (q ks h)

pub one_place : (κs : _) (a : _) (e e' : _) (r r' : ℕ) → place-in.Post κs a r e → place-in.Post κs a r' e' → r ≡ r'
one_place κs a e e' r r' p q = p ∙ sym q

pub one-shows : (κs : _) (a : _) (e e' : _) (r r' : Bool) → shows.Post κs a r e → shows.Post κs a r' e' → (ls vs : List Kind) → a.1.0.now ≡ map kind_byte ls
    → a.1.1.0.now ≡ map kind_byte vs → r ≡ r'
one-shows κs a e e' r r' p q ls vs hl hs = tells-once (p ls vs hl hs) (q ls vs hl hs)

pub one-write : (κs : _) (a : _) (e e' : _) (r r' : _) → write.Post κs a r e → write.Post κs a r' e' → e.0.now ≡ e'.0.now
one-write κs a e e' r r' p q = p ∙ sym q
