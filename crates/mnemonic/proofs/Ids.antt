-- The names by the id: letters alone, at most 32, and none from 512 on.
use Prim.Native.Nat.{ℕ, ◌-◌, ◌≤◌}
use mathlib.Core.Path.{◌≡◌, sym, ap, subst}
use mathlib.Core.Bool.{Bool, ◌&&◌}
use mathlib.Core.List.{List, []}
use mathlib.Core.Logic.{⊎_elim}
use native.Mathlib.Omega.{arith}
use lib.Dec.{T, leb, leb→le}
use lib.ListN.{length, get_or-eq_default}
use mir.Facts.{and_yes}
use borrow.Author.Tests.{le-ltb}
use Rattle.opcode.specs.Ascii.{ascii}
use Rattle.opcode.specs.Table.{unassigned, ◌is◌, name, lines, vector_name, plain_name}
use Rattle.opcode.specs.Number.{name_of}
use Rattle.opcode.specs.Lists.{up_from}
use Rattle.opcode.proofs.Every.{every, below, below-or-past}
use Rattle.mnemonic.specs.Letters.{Letters}
use Rattle.mnemonic.proofs.Letters.{letters, are-letters}

pub vector-nameless : (n : ℕ) → 256 ≤ n → vector_name n ≡ ""
unfolding vector_name
vector-nameless n h = ap name (get_or-eq_default lines ("" is unassigned) h)

pub nameless : (id : ℕ) → 512 ≤ id → name_of id ≡ []
unfolding name_of
nameless id h =
    let past : 256 ≤ id = omega arith in
    let far : 256 ≤ id - 256 = omega arith in
    rw (le-ltb id 256 past) (ap ascii (vector-nameless (id - 256) far))

abbrev named : List ℕ → Bool
named n = leb (length n) 32 && letters n

all_named : T (every (λ id. named (name_of id)) (up_from 0 512))
unfolding name_of plain_name vector_name
all_named = tt

module _ (id : ℕ) where
  parts : T (leb (length (name_of id)) 32) × T (letters (name_of id))
  parts =
      and_yes (leb (length (name_of id)) 32) (letters (name_of id))
      (⊎_elim
      (below (λ k. named (name_of k)) 512 all_named id)
      (λ h. subst (λ (n : List ℕ). T (named n)) (sym (nameless id h)) tt)
      (below-or-past 512 id))

  pub short : length (name_of id) ≤ 32
  short = leb→le (length (name_of id)) 32 parts.0

  pub all-letters : Letters (name_of id)
  all-letters = are-letters (name_of id) parts.1
