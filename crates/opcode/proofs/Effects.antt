-- A signature takes at most three kinds and leaves at most one, so that its number holds each in a byte of its own.
use mathlib.Core.Path.{◌≡◌, refl, sym, ap, subst, ◌∙◌}
use mathlib.Core.List.{List, [], ◌∷◌, map, reverse}
use mathlib.Core.Option.{Option, none, some}
use Prim.Native.Nat.{ℕ, ◌+◌, ◌-◌, ◌/◌, ◌%◌, ◌^◌, ◌≤◌, ◌<◌}
use native.Mathlib.Omega.{arith}
use lib.Dec.{lit≤, lit<}
use lib.ListN.{length, get_or, length-map, length-reverse}
use Rattle.operation.specs.Vector.{number}
use Rattle.operation.specs.Op.{Op, Load, LoadLane, Store, StoreLane, Const, Shuffle, Splat, ExtractLane, ReplaceLane, Unary, Binary, Bitselect, Test, Shift}
use Rattle.opcode.specs.Kind.{Kind, i32, i64, v128, kind_byte}
use Rattle.opcode.specs.Table.{End, Drop, LocalGet, LocalSet, LocalTee, I32Const, I64Const, I32Add, I32Sub, I32Eqz, I32LtU, Code, plain, control, vector}
use Rattle.opcode.specs.Effect.{Signature, ◌⇒◌, takes, leaves, signature, effect}
use Rattle.opcode.specs.Number.{packed}

-- ---- kinds

kind_at : ℕ → Kind
kind_at b = get_or (v128 ∷ v128 ∷ v128 ∷ i64 ∷ []) (b - 0x7B) i32

kind-back : (k : Kind) → kind_at (kind_byte k) ≡ k
unfolding kind_at
kind-back i32 = refl
kind-back i64 = refl
kind-back v128 = refl

pub kind-once : {j k : Kind} → kind_byte j ≡ kind_byte k → j ≡ k
kind-once {j} {k} e = sym (kind-back j) ∙ ap kind_at e ∙ kind-back k

pub kind-range : (k : Kind) → (0 < kind_byte k) × (kind_byte k < 2 ^ 8)
kind-range i32 = (lit< tt, lit< tt)
kind-range i64 = (lit< tt, lit< tt)
kind-range v128 = (lit< tt, lit< tt)

-- ---- the number of a signature that is small

record Digits (n : ℕ) (bs : List ℕ) : Type 0 where
  low : n % 2 ^ 8 ≡ get_or bs 0 0
  middle : n / 2 ^ 8 % 2 ^ 8 ≡ get_or bs 1 0
  high : n / 2 ^ 16 ≡ get_or bs 2 0
  bound : n < 2 ^ 24
  enough : length bs ≤ n

operands : (ks : List Kind) → length ks ≤ 3 → Digits (number (map kind_byte (reverse ks))) (map kind_byte (reverse ks))
operands [] h = record { low = refl; middle = refl; high = refl; bound = lit< tt; enough = lit≤ tt }
operands (a ∷ []) h =
    let p = kind-range a in
    record { low = omega arith; middle = omega arith; high = omega arith; bound = omega arith; enough = omega arith }
operands (a ∷ b ∷ []) h =
    let p = kind-range a in
    let q = kind-range b in
    record { low = omega arith; middle = omega arith; high = omega arith; bound = omega arith; enough = omega arith }
operands (a ∷ b ∷ c ∷ []) h =
    let p = kind-range a in
    let q = kind-range b in
    let r = kind-range c in
    record { low = omega arith; middle = omega arith; high = omega arith; bound = omega arith; enough = omega arith }
operands (a ∷ b ∷ c ∷ d ∷ ks) h = let no_room : ⊥ = omega arith in absurd no_room

record Digit (n : ℕ) (bs : List ℕ) : Type 0 where
  only : n ≡ get_or bs 0 0
  enough : length bs ≤ n

result : (ls : List Kind) → length ls ≤ 1 → Digit (number (map kind_byte ls)) (map kind_byte ls)
result [] h = record { only = refl; enough = lit≤ tt }
result (r ∷ []) h = let p = kind-range r in record { only = omega arith; enough = omega arith }
result (r ∷ q ∷ ls) h = let no_room : ⊥ = omega arith in absurd no_room

-- a signature's size, and the bytes of its number
pub record Unpacked (s : Signature) : Type 0 where
  pub few : length (takes s) ≤ 3
  pub one : length (leaves s) ≤ 1
  pub top : packed (some s) % 2 ^ 8 ≡ get_or (map kind_byte (reverse (takes s))) 0 0
  pub next : packed (some s) / 2 ^ 8 % 2 ^ 8 ≡ get_or (map kind_byte (reverse (takes s))) 1 0
  pub third : packed (some s) / 2 ^ 16 % 2 ^ 8 ≡ get_or (map kind_byte (reverse (takes s))) 2 0
  pub left : packed (some s) / 2 ^ 24 ≡ get_or (map kind_byte (leaves s)) 0 0
  pub known : 0 < packed (some s)

abbrev Small : Option Signature → Type 0
Small none = Unit {0}
Small (some (ks ⇒ ls)) = (length ks ≤ 3) × (length ls ≤ 1) × (0 < length ks + length ls)

unpack : (s : Signature) → Small (some s) → Unpacked s
unpack (ks ⇒ ls) h =
    let t = operands ks h.0 in
    let l = result ls h.1 in
    record {
      few = h.0;
      one = h.1;
      top = omega arith;
      next = omega arith;
      third = omega arith;
      left = omega arith;
      known = omega (arith, length-map (reverse ks) kind_byte, length-reverse ks, length-map ls kind_byte);
    }

-- ---- every signature is

small-op : (o : Op) → Small (some (signature o))
small-op (Load l) = (lit≤ tt, lit≤ tt, lit< tt)
small-op (LoadLane w) = (lit≤ tt, lit≤ tt, lit< tt)
small-op Store = (lit≤ tt, lit≤ tt, lit< tt)
small-op (StoreLane w) = (lit≤ tt, lit≤ tt, lit< tt)
small-op Const = (lit≤ tt, lit≤ tt, lit< tt)
small-op Shuffle = (lit≤ tt, lit≤ tt, lit< tt)
small-op (Splat w) = (lit≤ tt, lit≤ tt, lit< tt)
small-op (ExtractLane s w) = (lit≤ tt, lit≤ tt, lit< tt)
small-op (ReplaceLane w) = (lit≤ tt, lit≤ tt, lit< tt)
small-op (Unary o) = (lit≤ tt, lit≤ tt, lit< tt)
small-op (Binary o) = (lit≤ tt, lit≤ tt, lit< tt)
small-op Bitselect = (lit≤ tt, lit≤ tt, lit< tt)
small-op (Test o) = (lit≤ tt, lit≤ tt, lit< tt)
small-op (Shift o) = (lit≤ tt, lit≤ tt, lit< tt)

small : (c : Code) → Small (effect c)
small (plain End) = tt
small (plain Drop) = tt
small (plain LocalGet) = tt
small (plain LocalSet) = tt
small (plain LocalTee) = tt
small (plain I32Const) = (lit≤ tt, lit≤ tt, lit< tt)
small (plain I64Const) = (lit≤ tt, lit≤ tt, lit< tt)
small (plain I32Add) = (lit≤ tt, lit≤ tt, lit< tt)
small (plain I32Sub) = (lit≤ tt, lit≤ tt, lit< tt)
small (plain I32Eqz) = (lit≤ tt, lit≤ tt, lit< tt)
small (plain I32LtU) = (lit≤ tt, lit≤ tt, lit< tt)
small (control k) = tt
small (vector o) = small-op o

pub unpacked : (c : Code) {s : Signature} → effect c ≡ some s → Unpacked s
unpacked c {s} e = unpack s (subst Small e (small c))

-- 0 is the number of those without a signature alone
pub no-signature : (c : Code) → packed (effect c) ≡ 0 → effect c ≡ none
no-signature c z = by (effect c) refl
  where
    by : (e : Option Signature) → effect c ≡ e → effect c ≡ none
    by none e = e
    by (some s) e =
        let some_number : 0 < packed (some s) = (unpacked c e).known in
        let no_number : packed (some s) ≡ 0 = sym (ap packed e) ∙ z in
        let wrong : ⊥ = omega arith in
        absurd wrong
