-- What `name` promises leaves one answer. `Post` is the function's own contract as the prover reads it, at the arguments, the answer,
-- and the arguments as they are in the end.
use Prim.Native.Nat.{ℕ}
use mathlib.Core.Path.{◌≡◌, sym, ◌∙◌}
use mathlib.Core.List.{List}
use contract.Lifetimes.{Lfts}
use Rattle.std.specs.Borrow.{Bor}
use Rattle.mnemonic.proofs.name.Reads as name

pub one_name : (id : ℕ) (κs : Lfts 1) (r r' : Bor (List ℕ)) → name.Post κs (id, tt) r (id, tt) → name.Post κs (id, tt) r' (id, tt) → r.now ≡ r'.now
one_name id κs r r' p q = p ∙ sym q
