-- The table carries no operation that takes or leaves a scalar of 128 bits.
use Prim.Native.Nat.{ℕ, ◌<◌}
use mathlib.Core.Path.{◌≡◌, sym, subst}
use mathlib.Core.Bool.{Bool, true, false, cond}
use mathlib.Core.Logic.{⊎_elim}
use lib.Dec.{T, eqb}
use mir.Syntax.{Width, w8, w16, w32, w64, w128}
use Rattle.operation.specs.Op.{Op, Load, LoadLane, Store, StoreLane, Const, Shuffle, Splat, ExtractLane, ReplaceLane, Unary, Binary, Bitselect, Test, Shift}
use Rattle.opcode.specs.Table.{plain, control, vector, Row, carried, float, unassigned, vectors, vector_at, plain_at, PREFIX}
use Rattle.opcode.proofs.Every.{below, below-or-past}
use Rattle.opcode.proofs.Rows.{vector-beyond}
use Rattle.opcode.proofs.Versions.{every-plain}
use Rattle.instr.specs.declared.Instr.{Instr}
use Rattle.instr.specs.Layout.{row_in}

-- the lanes of a shape
abbrev pub narrow : Width → Bool
narrow w8 = true
narrow w16 = true
narrow w32 = true
narrow w64 = true
narrow w128 = false

abbrev pub scalars : Op → Bool
scalars (Load l) = true
scalars (LoadLane w) = true
scalars Store = true
scalars (StoreLane w) = true
scalars Const = true
scalars Shuffle = true
scalars (Splat w) = narrow w
scalars (ExtractLane s w) = narrow w
scalars (ReplaceLane w) = narrow w
scalars (Unary o) = true
scalars (Binary o) = true
scalars Bitselect = true
scalars (Test o) = true
scalars (Shift o) = true

abbrev in_row : Row → Bool
in_row (carried (plain p)) = true
in_row (carried (control k)) = true
in_row (carried (vector o)) = scalars o
in_row float = true
in_row unassigned = true

in_plains : (ver b : ℕ) → T (in_row (plain_at ver b))
in_plains = every-plain in_row tt tt

in_small : (n : ℕ) → n < 256 → T (in_row (vector_at n))
unfolding vector_at vectors
in_small n l = below (λ (k : ℕ). in_row (vector_at k)) 256 tt n l

in_vectors : (n : ℕ) → T (in_row (vector_at n))
in_vectors n = ⊎_elim (in_small n) (λ l. subst (λ (x : Row). T (in_row x)) (sym (vector-beyond n l)) tt) (below-or-past 256 n)

every-row : (ver : ℕ) (i : Instr) → T (in_row (row_in ver i))
every-row ver i = at (eqb i.first PREFIX)
  where
    at : (t : Bool) → T (in_row (cond t (vector_at i.number) (plain_at ver i.first)))
    at true = in_vectors i.number
    at false = in_plains ver i.first

pub narrow-scalars : (ver : ℕ) (i : Instr) (o : Op) → row_in ver i ≡ carried (vector o) → T (scalars o)
narrow-scalars ver i o e = subst (λ (x : Row). T (in_row x)) e (every-row ver i)
