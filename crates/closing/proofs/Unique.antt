-- What the search promises leaves one answer, also where there is no `end`. `Post` is its own contract as the prover reads it.
use Prim.Native.Nat.{ℕ}
use mathlib.Core.Path.{◌≡◌, sym, ◌∙◌}
use Rattle.closing.proofs.close.Reads as close

pub one_end : (κs : _) (a : _) (e e' : _) (r r' : ℕ) → close.Post κs a r e → close.Post κs a r' e' → r ≡ r'
one_end κs a e e' r r' p q = p ∙ sym q
