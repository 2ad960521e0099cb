-- The table of block types by itself: a type that is a kind's byte leaves that kind, 40 leaves nothing, and there are no others.
use Prim.Native.Nat.{ℕ}
use mathlib.Core.Path.{◌≡◌, refl, sym, subst}
use mathlib.Core.Bool.{Bool, true, false, ◌||◌}
use mathlib.Core.List.{[], ◌∷◌}
use native.Mathlib.Omega.{arith}
use lib.Dec.{eqb}
use borrow.Author.Tests.{eqb-true}
use Rattle.opcode.specs.Kind.{Kind, i32, i64, v128, kind_byte}
use Rattle.opcode.specs.BlockType.{is_block_type, block_results}
use Rattle.opcode.specs.Lists.{BlockType, empty, kind}

pub kind-type : (k : Kind) → (is_block_type (kind_byte k) ≡ true) × (block_results (kind_byte k) ≡ k ∷ [])
kind-type i32 = (refl, refl)
kind-type i64 = (refl, refl)
kind-type v128 = (refl, refl)

pub empty-type : (is_block_type 0x40 ≡ true) × (block_results 0x40 ≡ [])
empty-type = (refl, refl)

pub no-other-type : (b : ℕ) → is_block_type b ≡ true → BlockType b
no-other-type b e = by (eqb b 0x40) (eqb b 0x7F) (eqb b 0x7E) (eqb b 0x7B) refl refl refl refl e
  where
    by : (p q r t : Bool) → eqb b 0x40 ≡ p → eqb b 0x7F ≡ q → eqb b 0x7E ≡ r → eqb b 0x7B ≡ t → (p || (q || (r || (t || false)))) ≡ true → BlockType b
    by true q r t ep eq er et z = subst BlockType (sym (eqb-true b 0x40 ep)) empty
    by false true r t ep eq er et z = subst BlockType (sym (eqb-true b 0x7F eq)) (kind i32)
    by false false true t ep eq er et z = subst BlockType (sym (eqb-true b 0x7E er)) (kind i64)
    by false false false true ep eq er et z = subst BlockType (sym (eqb-true b 0x7B et)) (kind v128)
    by false false false false ep eq er et z = absurd (let no : ◌≡◌ {A = ℕ} 0 1 = cc in omega arith)
