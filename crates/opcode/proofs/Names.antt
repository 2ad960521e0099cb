-- Every name that the table gives is that of what stands beside it.
use Prim.Native.Nat.{ℕ, ◌-◌}
use Prim.Native.String.{String}
use mathlib.Core.Path.{◌≡◌, ap, subst}
use mathlib.Core.Bool.{Bool, true, cond}
use mathlib.Core.Logic.{⊎_elim}
use lib.Dec.{T, ltb}
use lib.Text.{eqt, eqt→eq}
use Rattle.opcode.specs.Ascii.{ascii}
use Rattle.opcode.specs.Table.{Code, Row, carried, float, unassigned, vectors, vector_at, vector_name, plain_at, plain_name}
use Rattle.opcode.specs.Number.{row_of, name_of}
use Rattle.opcode.specs.Lists.{up_from}
use Rattle.opcode.specs.Names.{name_of_op, name_of_code}
use Rattle.opcode.proofs.Every.{every, below, below-or-past}
use Rattle.opcode.proofs.Rows.{row-beyond}

abbrev named : Row → String → Bool
named (carried c) t = eqt t (name_of_code c)
named float t = true
named unassigned t = true

abbrev name : ℕ → String
name id = cond (ltb id 256) (plain_name id) (vector_name (id - 256))

all_named : T (every (λ id. named (row_of id) (name id)) (up_from 0 512))
unfolding row_of plain_at plain_name vector_at vectors vector_name name_of_op
all_named = tt

pub names-composed : (id : ℕ) {c : Code} → row_of id ≡ carried c → name_of id ≡ ascii (name_of_code c)
unfolding name_of
names-composed id {c} e =
    ⊎_elim
    (λ l. ap ascii (eqt→eq (name id) (name_of_code c) (subst (λ (r : Row). T (named r (name id))) e (below (λ k. named (row_of k) (name k)) 512 all_named id l))))
    (λ h. cc (row-beyond id h))
    (below-or-past 512 id)
