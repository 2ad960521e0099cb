-- Inner: the parts of a line.
use Rattle.std.specs.Prelude.{ℕ, zero, suc, ◌≤◌, ◌≡◌, cond, List, [], ◌∷◌, ◌++◌, eqb, length}
use Rattle.limits.specs.Limits.{stack_limit}
use Rattle.text.specs.Words.{blank}
use Rattle.text.specs.Append.{Appends}
use Rattle.opcode.specs.Kind.{Kind, i32, i64, v128, kind_byte, kind_name}
use Rattle.opcode.specs.Table.{Code, latest, carried}
use Rattle.opcode.specs.Number.{id_of}
use Rattle.opcode.specs.Entry.{entry_of}
use Rattle.instr.specs.declared.Instr.{Instr}
use Rattle.instr.specs.Layout.{row_in, Typed}
use Rattle.checker.specs.Walk.{KindBytes}
use Rattle.listing.specs.Walk.{longest}

-- each word with a blank before it
unfoldable pub led : List (List ℕ) → List ℕ
led [] = []
led (w ∷ ws) = (blank ∷ w) ++ led ws

-- the name of the kind with this byte
abbrev pub kind_text : ℕ → List ℕ
kind_text b = cond (eqb b (kind_byte i32)) (kind_name i32) (cond (eqb b (kind_byte i64)) (kind_name i64) (kind_name v128))

-- before the k-th kind
abbrev pub between : ℕ → List ℕ
between zero = []
between (suc k) = blank ∷ []

-- a text of at most so many bytes, from a place on
pub record Adds (most : ℕ) (text out : List ℕ) (at next : ℕ) (out' : List ℕ) : Type 0 where
  pub short : length text ≤ most
  pub appends : Appends text out at next out'

-- an instruction that was fetched, as a line shows it
pub record Shows (kinds : List ℕ) (depth id entry : ℕ) (i : Instr) (room : ℕ) : Type 0 where
  pub stack : List Kind
  pub holds : KindBytes kinds depth stack
  pub most : depth ≤ stack_limit
  pub typed : Typed i
  pub code : Code
  pub row : row_in latest i ≡ carried code
  pub id_is : id ≡ id_of i.first i.number
  pub entry_is : entry ≡ entry_of (carried code)
  pub enough : longest ≤ room
