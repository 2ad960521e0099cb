-- What the copy promises leaves one answer, and one content of the buffer.
use Prim.Native.Nat.{ℕ}
use mathlib.Core.Path.{◌≡◌, sym, ◌∙◌}
use Rattle.buffer.proofs.copy.Reads as copying

pub one-copy : (κs : _) (a : _) (e e' : _) (r r' : ℕ) → copying.Post κs a r e → copying.Post κs a r' e' → (r ≡ r') × (e.1.0.now ≡ e'.1.0.now)
one-copy κs a e e' r r' p q = (p.0 ∙ sym q.0, p.1 ∙ sym q.1)
