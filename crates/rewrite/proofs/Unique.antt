-- What `rewrite` promises leaves one answer, and one content of the output. `Post` is the function's own contract as the prover reads it.
use mathlib.Core.Path.{◌≡◌}
use Rattle.rewrite.specs.declared.Rewritten.{Rewritten}
use Rattle.rewrite.proofs.Rewriting.{rewrites-once}
use Rattle.rewrite.proofs.rewrite.Reads as rewrite

pub one-rewriting : (κs : _) (a : _) (e e' : _) (r r' : Rewritten) → rewrite.Post κs a r e → rewrite.Post κs a r' e'
    → (r ≡ r') × (e.1.0.now ≡ e'.1.0.now)
one-rewriting κs a e e' r r' p q = rewrites-once p q
