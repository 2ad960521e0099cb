-- The table read by a number that is not at hand.
use mathlib.Core.Path.{◌≡◌}
use Prim.Native.Nat.{ℕ, ◌+◌, ◌-◌, ◌≤◌}
use native.Mathlib.Omega.{arith}
use lib.ListN.{get_or-eq_default}
use borrow.Author.Tests.{le-ltb}
use Rattle.opcode.specs.Table.{unassigned, vectors, vector_at}
use Rattle.opcode.specs.Number.{row_of}

pub vector-beyond : (n : ℕ) → 256 ≤ n → vector_at n ≡ unassigned
unfolding vector_at vectors
vector-beyond n h = get_or-eq_default vectors unassigned h

pub row-beyond : (id : ℕ) → 512 ≤ id → row_of id ≡ unassigned
unfolding row_of
row-beyond id h =
    let past : 256 ≤ id = omega arith in
    let far : 256 ≤ id - 256 = omega arith in
    rw (le-ltb id 256 past) (vector-beyond (id - 256) far)

pub row-vector : (n : ℕ) → row_of (256 + n) ≡ vector_at n
unfolding row_of
row-vector n =
    let past : 256 ≤ 256 + n = omega arith in
    let same : 256 + n - 256 ≡ n = omega arith in
    rw (le-ltb (256 + n) 256 past, same)
