-- An instruction that is refused, where all before it is well, is a breach: 2 and 6 to 11.
use Prim.Native.Nat.{ℕ}
use mathlib.Core.List.{List}
use mathlib.Core.Path.{◌≡◌}
use Rattle.card.specs.Card.{DONE}
use Rattle.leb128.specs.Bytes.{bytes}
use Rattle.instr.specs.Decode.{decode_at}
use Rattle.instr.specs.Refuses.{cut, no_block_type, no_number, large_index, large_exponent, Refuses, item, not_assigned, a_float}
use Rattle.instr.proofs.Refuses.{decoded-refuses}
use Rattle.rules.specs.Header.{Header}
use Rattle.rules.specs.Typing.{Frame}
use Rattle.rules.specs.Strip.{Reaches}
use Rattle.rules.specs.Breach.{Refused, Breach, short, block_type, opcode, float, number, lane, align}

module _ {s : List ℕ} {h : Header} {at : ℕ} {fs : List Frame} (reached : Reaches s h at fs) where
  refused : {code place : ℕ} → Refuses h.version s at code place → Refused s code place
  refused f = record { header = h; at = at; frames = fs; reached = reached; refuses = f }

  breach-of : {code place : ℕ} → Refuses h.version s at code place → Breach s code place
  breach-of (item r (cut a)) = short (refused (item r (cut a)))
  breach-of (item r (no_block_type a e)) = block_type (refused (item r (no_block_type a e)))
  breach-of (item r (no_number a)) = number (refused (item r (no_number a)))
  breach-of (item r (large_index a e)) = lane (refused (item r (large_index a e)))
  breach-of (item r (large_exponent a e)) = align (refused (item r (large_exponent a e)))
  breach-of (not_assigned o e) = opcode (refused (not_assigned o e))
  breach-of (a_float o e) = float (refused (a_float o e))

  pub refused-breach : bytes s → ((decode_at h.version s at).code ≡ DONE → ⊥) → Breach s (decode_at h.version s at).code (decode_at h.version s at).place
  refused-breach b z = breach-of (decoded-refuses s b h.version at z)
