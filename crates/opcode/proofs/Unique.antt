-- What each public function promises leaves one answer. `Post` is the function's own contract as the prover reads it, at the
-- arguments, the answer, and the arguments as they are in the end.
use mathlib.Core.Path.{◌≡◌, sym, ◌∙◌}
use Prim.Native.Nat.{ℕ}
use mathlib.Core.Bool.{Bool}
use Rattle.opcode.proofs.is_known.Reads as is-known
use Rattle.opcode.proofs.since.Reads as since
use Rattle.opcode.proofs.id_of.Reads as id-of
use Rattle.opcode.proofs.table.entry.Reads as entry
use Rattle.opcode.proofs.immediates.Reads as immediates
use Rattle.opcode.proofs.group.Reads as group
use Rattle.opcode.proofs.moved.Reads as moved
use Rattle.opcode.proofs.lanes.Reads as lanes
use Rattle.opcode.proofs.effect.Reads as effect

pub one_known : (v : ℕ) {r r' : Bool} → is-known.Post tt (v, tt) r (v, tt) → is-known.Post tt (v, tt) r' (v, tt) → r ≡ r'
one_known v p q = p ∙ sym q

pub one-since : (b : ℕ) {r r' : ℕ} → since.Post tt (b, tt) r (b, tt) → since.Post tt (b, tt) r' (b, tt) → r ≡ r'
one-since b p q = p ∙ sym q

pub one-id : (first n : ℕ) {r r' : ℕ} → id-of.Post tt (first, (n, tt)) r (first, (n, tt)) → id-of.Post tt (first, (n, tt)) r' (first, (n, tt)) → r ≡ r'
one-id first n p q = p ∙ sym q

pub one_entry : (id : ℕ) {r r' : ℕ} → entry.Post tt (id, tt) r (id, tt) → entry.Post tt (id, tt) r' (id, tt) → r ≡ r'
one_entry id p q = p ∙ sym q

module _ (e : ℕ) {r r' : ℕ} where
  pub one_class : immediates.Post tt (e, tt) r (e, tt) → immediates.Post tt (e, tt) r' (e, tt) → r ≡ r'
  one_class p q = p ∙ sym q

  pub one-group : group.Post tt (e, tt) r (e, tt) → group.Post tt (e, tt) r' (e, tt) → r ≡ r'
  one-group p q = p ∙ sym q

  pub one-moved : moved.Post tt (e, tt) r (e, tt) → moved.Post tt (e, tt) r' (e, tt) → r ≡ r'
  one-moved p q = p ∙ sym q

  pub one-lane-count : lanes.Post tt (e, tt) r (e, tt) → lanes.Post tt (e, tt) r' (e, tt) → r ≡ r'
  one-lane-count p q = p ∙ sym q

  pub one-effect : effect.Post tt (e, tt) r (e, tt) → effect.Post tt (e, tt) r' (e, tt) → r ≡ r'
  one-effect p q = p ∙ sym q
