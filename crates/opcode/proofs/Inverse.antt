-- No two numbers are one instruction: the table has an inverse, found by looking an operation up in it.
use mathlib.Core.Path.{◌≡◌, sym, subst, ◌∙◌}
use mathlib.Core.Bool.{Bool, true, false, cond}
use mathlib.Core.List.{List, [], ◌∷◌}
use mathlib.Core.Logic.{⊎_elim}
use Prim.Native.Nat.{ℕ, suc, ◌+◌, ◌*◌}
use native.Mathlib.Omega.{arith}
use lib.Dec.{T, eqb, eqb→eq}
use mir.Syntax.{Width}
use mir.Val.{bytes}
use Rattle.scalar.specs.Scalar.{Sign, S, U}
use Rattle.operation.specs.Op.{Half, Low, High, Unop, Not, Abs, Neg, Popcnt, Extend, ExtaddPairwise, Binop, And, Andnot, Or, Xor, Swizzle, Eq, Ne, Lt, Gt, Le}
use Rattle.operation.specs.Op.{Ge, Add, Sub, Mul, AddSat, SubSat, Min, Max, AvgrU, Q15mulrSatS, DotS, Narrow, Extmul, Testop, AnyTrue, AllTrue, Bitmask}
use Rattle.operation.specs.Op.{Shiftop, Shl, Shr, Loadop, Whole, Widen, Repeat, ZeroPad, Op, Load, LoadLane, Store, StoreLane, Const, Shuffle, Splat}
use Rattle.operation.specs.Op.{ExtractLane, ReplaceLane, Unary, Binary, Bitselect, Test, Shift}
use Rattle.opcode.specs.Table.{Plain, End, Drop, LocalGet, LocalSet, LocalTee, I32Const, I64Const, I32Add, I32Sub, I32Eqz, I32LtU, Control, Block, Loop}
use Rattle.opcode.specs.Table.{Br, BrIf, Code, plain, control, vector, Row, carried, float, unassigned, vectors, vector_at, plain_at}
use Rattle.opcode.specs.Number.{row_of}
use Rattle.opcode.specs.Lists.{up_from}
use Rattle.opcode.proofs.Every.{every, below, below-or-past}
use Rattle.opcode.proofs.Rows.{row-beyond, row-vector}

-- ---- a number for each operation, by which two are told apart

abbrev signed : Sign → Width → ℕ
signed S w = bytes w
signed U w = 32 + bytes w

abbrev halved : Half → Sign → Width → ℕ
halved Low s w = signed s w
halved High s w = 64 + signed s w

abbrev unop : Unop → ℕ
unop Not = 0
unop Popcnt = 128
unop (Abs w) = 128 * 2 + bytes w
unop (Neg w) = 128 * 3 + bytes w
unop (Extend h s w) = 128 * 4 + halved h s w
unop (ExtaddPairwise s w) = 128 * 5 + signed s w

abbrev binop : Binop → ℕ
binop And = 0
binop Andnot = 128
binop Or = 128 * 2
binop Xor = 128 * 3
binop Swizzle = 128 * 4
binop (Eq w) = 128 * 5 + bytes w
binop (Ne w) = 128 * 6 + bytes w
binop (Lt s w) = 128 * 7 + signed s w
binop (Gt s w) = 128 * 8 + signed s w
binop (Le s w) = 128 * 9 + signed s w
binop (Ge s w) = 128 * 10 + signed s w
binop (Add w) = 128 * 11 + bytes w
binop (Sub w) = 128 * 12 + bytes w
binop (Mul w) = 128 * 13 + bytes w
binop (AddSat s w) = 128 * 14 + signed s w
binop (SubSat s w) = 128 * 15 + signed s w
binop (Min s w) = 128 * 16 + signed s w
binop (Max s w) = 128 * 17 + signed s w
binop (AvgrU w) = 128 * 18 + bytes w
binop Q15mulrSatS = 128 * 19
binop DotS = 128 * 20
binop (Narrow s w) = 128 * 21 + signed s w
binop (Extmul h s w) = 128 * 22 + halved h s w

abbrev testop : Testop → ℕ
testop AnyTrue = 0
testop (AllTrue w) = 128 + bytes w
testop (Bitmask w) = 128 * 2 + bytes w

abbrev shiftop : Shiftop → ℕ
shiftop (Shl w) = bytes w
shiftop (Shr s w) = 128 + signed s w

abbrev loadop : Loadop → ℕ
loadop Whole = 0
loadop (Widen s w) = 128 + signed s w
loadop (Repeat w) = 128 * 2 + bytes w
loadop (ZeroPad w) = 128 * 3 + bytes w

abbrev tag : Op → ℕ
tag (Load l) = 4096 * 0 + loadop l
tag (LoadLane w) = 4096 + bytes w
tag Store = 4096 * 2
tag (StoreLane w) = 4096 * 3 + bytes w
tag Const = 4096 * 4
tag Shuffle = 4096 * 5
tag (Splat w) = 4096 * 6 + bytes w
tag (ExtractLane s w) = 4096 * 7 + signed s w
tag (ReplaceLane w) = 4096 * 8 + bytes w
tag (Unary o) = 4096 * 9 + unop o
tag (Binary o) = 4096 * 10 + binop o
tag Bitselect = 4096 * 11
tag (Test o) = 4096 * 12 + testop o
tag (Shift o) = 4096 * 13 + shiftop o

-- ---- the inverse

abbrev has : ℕ → Row → Bool
has t (carried (plain p)) = false
has t (carried (control k)) = false
has t (carried (vector o)) = eqb t (tag o)
has t float = false
has t unassigned = false

abbrev find : ℕ → ℕ → List Row → ℕ
find t n [] = n
find t n (r ∷ rs) = cond (has t r) n (find t (suc n) rs)

-- FD's number of an operation, 256 where it has none
unfoldable pub number_of : Op → ℕ
number_of o = find (tag o) 0 vectors

unfoldable pub byte_of : Plain → ℕ
byte_of End = 0x0B
byte_of Drop = 0x1A
byte_of LocalGet = 0x20
byte_of LocalSet = 0x21
byte_of LocalTee = 0x22
byte_of I32Const = 0x41
byte_of I64Const = 0x42
byte_of I32Add = 0x6A
byte_of I32Sub = 0x6B
byte_of I32Eqz = 0x45
byte_of I32LtU = 0x49

unfoldable pub byte_of_control : Control → ℕ
byte_of_control Block = 0x02
byte_of_control Loop = 0x03
byte_of_control Br = 0x0C
byte_of_control BrIf = 0x0D

abbrev pub id_of_code : Code → ℕ
id_of_code (plain p) = byte_of p
id_of_code (control k) = byte_of_control k
id_of_code (vector o) = 256 + number_of o

abbrev back : ℕ → Row → Bool
back id (carried c) = eqb (id_of_code c) id
back id float = true
back id unassigned = true

all_back : T (every (λ id. back id (row_of id)) (up_from 0 512))
unfolding row_of plain_at vector_at vectors number_of byte_of byte_of_control
all_back = tt

pub code-back : (id : ℕ) {c : Code} → row_of id ≡ carried c → id_of_code c ≡ id
code-back id {c} e =
    ⊎_elim
    (λ l. eqb→eq (id_of_code c) id (subst (λ (r : Row). T (back id r)) e (below (λ k. back k (row_of k)) 512 all_back id l)))
    (λ h. cc (row-beyond id h))
    (below-or-past 512 id)

-- one id, and one number after FD, for a code
pub row-once : {m n : ℕ} {c : Code} → row_of m ≡ carried c → row_of n ≡ carried c → m ≡ n
row-once {m} {n} p q = sym (code-back m p) ∙ code-back n q

pub vector-once : {m n : ℕ} {c : Code} → vector_at m ≡ carried c → vector_at n ≡ carried c → m ≡ n
vector-once {m} {n} p q =
    let same : 256 + m ≡ 256 + n = row-once (row-vector m ∙ p) (row-vector n ∙ q) in
    omega arith

pub number-back : (n : ℕ) {o : Op} → vector_at n ≡ carried (vector o) → number_of o ≡ n
number-back n {o} e =
    let same : 256 + number_of o ≡ 256 + n = code-back (256 + n) (row-vector n ∙ e) in
    omega arith
