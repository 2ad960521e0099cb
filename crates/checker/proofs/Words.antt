-- A block's type and its word.
use Prim.Native.Nat.{ℕ, ◌/◌, ◌%◌, ◌≤◌, ◌<◌}
use mathlib.Core.Path.{◌≡◌, refl, sym, ap, ◌∙◌}
use mathlib.Core.Bool.{Bool, true, false, cond}
use mathlib.Core.List.{map}
use native.Mathlib.Decide.{ℕ_discrete}
use native.Mathlib.Omega.{arith}
use lib.Dec.{eqb}
use lib.ListN.{length}
use Rattle.operation.specs.Vector.{number}
use Rattle.opcode.specs.Kind.{i32, i64, v128, kind_byte}
use Rattle.opcode.specs.BlockType.{is_block_type, block_results}
use Rattle.opcode.specs.Lists.{BlockType, empty, kind}
use Rattle.opcode.proofs.BlockTypes.{no-other-type}
use Rattle.checker.specs.Walk.{bit, word}
use Rattle.checker.specs.Inner.Blocks.{top_first}

-- ---- block types

-- a byte, 0 not among them, of one result at most
record Typed-byte (b : ℕ) : Type 0 where
  small : b < 256
  some : b ≡ 0 → ⊥
  few : length (block_results b) ≤ 1
  none : b ≡ 0x40 → 0 ≡ top_first (block_results b)
  one : (b ≡ 0x40 → ⊥) → b ≡ top_first (block_results b)
  up : number (map kind_byte (block_results b)) ≡ top_first (block_results b)
  many : length (block_results b) ≡ cond (eqb (top_first (block_results b)) 0) 0 1

type-facts : {b : ℕ} → BlockType b → Typed-byte b
type-facts empty = record { small = omega arith; some = λ e. omega arith; few = omega arith; none = λ e. refl; one = λ f. absurd (f refl); up = refl; many = refl }
type-facts (kind i32) = record { small = omega arith; some = λ e. omega arith; few = omega arith; none = λ e. absurd (omega arith); one = λ f. refl; up = refl; many = refl }
type-facts (kind i64) = record { small = omega arith; some = λ e. omega arith; few = omega arith; none = λ e. absurd (omega arith); one = λ f. refl; up = refl; many = refl }
type-facts (kind v128) = record { small = omega arith; some = λ e. omega arith; few = omega arith; none = λ e. absurd (omega arith); one = λ f. refl; up = refl; many = refl }

pub type-small : (b : ℕ) → is_block_type b ≡ true → b < 256
type-small b e = (type-facts (no-other-type b e)).small

pub type-some : (b : ℕ) → is_block_type b ≡ true → b ≡ 0 → ⊥
type-some b e = (type-facts (no-other-type b e)).some

pub type-few : (b : ℕ) → is_block_type b ≡ true → length (block_results b) ≤ 1
type-few b e = (type-facts (no-other-type b e)).few

pub type-none : (b : ℕ) → is_block_type b ≡ true → b ≡ 0x40 → 0 ≡ top_first (block_results b)
type-none b e = (type-facts (no-other-type b e)).none

pub type-one : (b : ℕ) → is_block_type b ≡ true → (b ≡ 0x40 → ⊥) → b ≡ top_first (block_results b)
type-one b e = (type-facts (no-other-type b e)).one

pub type_up : (b : ℕ) → is_block_type b ≡ true → number (map kind_byte (block_results b)) ≡ top_first (block_results b)
type_up b e = (type-facts (no-other-type b e)).up

pub type-many : (b : ℕ) → is_block_type b ≡ true → length (block_results b) ≡ cond (eqb (top_first (block_results b)) 0) 0 1
type-many b e = (type-facts (no-other-type b e)).many

-- a type is told by what it leaves
pub type-once : (a b : ℕ) → is_block_type a ≡ true → is_block_type b ≡ true → block_results a ≡ block_results b → a ≡ b
type-once a b p q e =
    let same : top_first (block_results a) ≡ top_first (block_results b) = ap top_first e in
    elim (ℕ_discrete a 0x40) [
      | yes x ↦
          elim (ℕ_discrete b 0x40) [
            | yes y ↦ x ∙ sym y
            | no y ↦ absurd (type-some b q (type-one b q y ∙ sym same ∙ sym (type-none a p x)))
          ]
      | no x ↦
          elim (ℕ_discrete b 0x40) [
            | yes y ↦ absurd (type-some a p (type-one a p x ∙ same ∙ sym (type-none b q y)))
            | no y ↦ type-one a p x ∙ same ∙ sym (type-one b q y)
          ]
    ]

-- ---- the parts of a word

pub bit-small : (b : Bool) → bit b ≤ 1
bit-small true = omega arith
bit-small false = omega arith

bit-of : (b : Bool) → eqb (bit b) 1 ≡ b
bit-of true = refl
bit-of false = refl

module _ (floor type : ℕ) (loop dead : Bool) (lt : type < 256) {w : ℕ} (e : w ≡ word floor type loop dead) where
  pub word-floor : w / 1024 ≡ floor
  word-floor = omega (arith, e, lt, bit-small loop, bit-small dead)

  pub word-type : w % 256 ≡ type
  word-type = omega (arith, e, lt, bit-small loop, bit-small dead)

  pub word-loop : eqb (w / 256 % 2) 1 ≡ loop
  word-loop = ap (λ (x : ℕ). eqb x 1) (let z : w / 256 % 2 ≡ bit loop = omega (arith, e, lt, bit-small loop, bit-small dead) in z) ∙ bit-of loop

  pub word-dead : eqb (w / 512 % 2) 1 ≡ dead
  word-dead = ap (λ (x : ℕ). eqb x 1) (let z : w / 512 % 2 ≡ bit dead = omega (arith, e, lt, bit-small loop, bit-small dead) in z) ∙ bit-of dead
