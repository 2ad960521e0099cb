-- What each function promises leaves one answer, and one content of the buffer. `Post` is a function's own contract as the prover reads it.
use Prim.Native.Nat.{ℕ}
use mathlib.Core.Path.{◌≡◌}
use Rattle.text.proofs.Appending.{appends-once}
use Rattle.text.proofs.push.Reads as push
use Rattle.text.proofs.put.Reads as put
use Rattle.text.proofs.decimal.Reads as decimal
use Rattle.text.proofs.signed.Reads as signed

pub one-push : (κs : _) (a : _) (e e' : _) (r r' : ℕ) → push.Post κs a r e → push.Post κs a r' e' → (r ≡ r') × (e.1.0.now ≡ e'.1.0.now)
one-push κs a e e' r r' p q = appends-once p q

pub one-put : (κs : _) (a : _) (e e' : _) (r r' : ℕ) → put.Post κs a r e → put.Post κs a r' e' → (r ≡ r') × (e.1.0.now ≡ e'.1.0.now)
one-put κs a e e' r r' p q = appends-once p q

pub one-decimal : (κs : _) (a : _) (e e' : _) (r r' : ℕ) → decimal.Post κs a r e → decimal.Post κs a r' e' → (r ≡ r') × (e.1.0.now ≡ e'.1.0.now)
one-decimal κs a e e' r r' p q = appends-once p q

pub one-signed : (κs : _) (a : _) (e e' : _) (r r' : ℕ) → signed.Post κs a r e → signed.Post κs a r' e' → (r ≡ r') × (e.1.0.now ≡ e'.1.0.now)
one-signed κs a e e' r r' p q = appends-once p q
