-- Each item of a file, by what stands at its place.
use Prim.Native.Nat.{ℕ, ◌+◌, ◌<◌, ◌≤◌}
use mathlib.Core.Bool.{Bool, true}
use mathlib.Core.List.{List}
use mathlib.Core.Path.{◌≡◌, ap}
use lib.ListN.{length, get_or}
use borrow.Author.Tests.{lt-ltb, le-ltb}
use Rattle.std.specs.Prelude.{Result}
use Rattle.card.specs.Card.{SHORT, LANE}
use Rattle.leb128.specs.Number.{number_at}
use Rattle.leb128.specs.declared.reading.Number.{Number}
use Rattle.leb128.specs.declared.reading.NoNumber.{NoNumber}
use Rattle.opcode.specs.BlockType.{is_block_type}
use Rattle.opcode.specs.Table.{row_at}
use Rattle.instr.specs.Layout.{head, refusal}
use Rattle.instr.specs.Decode.{got, no, item_of, number_item, byte_at, lane_at, block_at, body_of, opcode_number, decode_at}

module _ (s : List ℕ) where
  pub number-item : (sign : Bool) (N p : ℕ) (r : Result Number NoNumber) → number_at sign N s p ≡ r → number_item sign N s p ≡ item_of s p r
  unfolding number_item
  number-item sign N p r e = ap (item_of s p) e

  module _ (p : ℕ) where
    pub byte-there : p < length s → byte_at s p ≡ got (get_or s p 0) (p + 1)
    unfolding byte_at
    byte-there h = rw (lt-ltb p (length s) h)

    pub byte_cut : length s ≤ p → byte_at s p ≡ no SHORT (length s)
    unfolding byte_at
    byte_cut h = rw (le-ltb p (length s) h)

    pub block-good : p < length s → is_block_type (get_or s p 0) ≡ true → block_at s p ≡ got (get_or s p 0) (p + 1)
    unfolding block_at
    block-good h l = rw (byte-there h, l)

    module _ (n : ℕ) where
      pub lane-good : p < length s → get_or s p 0 < n → lane_at n s p ≡ got (get_or s p 0) (p + 1)
      unfolding lane_at
      lane-good h l = rw (byte-there h, lt-ltb (get_or s p 0) n l)

      pub lane-bad : p < length s → n ≤ get_or s p 0 → lane_at n s p ≡ no LANE p
      unfolding lane_at
      lane-bad h l = rw (byte-there h, le-ltb (get_or s p 0) n l)

      pub lane-cut : length s ≤ p → lane_at n s p ≡ no SHORT (length s)
      unfolding lane_at
      lane-cut h = rw (byte_cut h)

-- no byte; a byte and no number; both
module _ (ver : ℕ) (s : List ℕ) (at : ℕ) where
  pub decode-none : (c p : ℕ) → byte_at s at ≡ no c p → decode_at ver s at ≡ refusal c p
  unfolding decode_at
  decode-none c p e = rw e

  module _ (b q : ℕ) (e : byte_at s at ≡ got b q) where
    pub decode-number : (c p : ℕ) → item_of s q (opcode_number b s q) ≡ no c p → decode_at ver s at ≡ refusal c p
    unfolding decode_at
    decode-number c p o = rw (e, o)

    pub decode-body : (n p : ℕ) → item_of s q (opcode_number b s q) ≡ got n p → decode_at ver s at ≡ body_of (row_at ver b n) s at p (head b n)
    unfolding decode_at
    decode-body n p o = rw (e, o)
