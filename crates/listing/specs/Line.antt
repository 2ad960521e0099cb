-- One line of a listing (02, C-11, C-13): place, stack kinds before the instruction, the bottom first, mnemonic and decimal immediates in file order,
-- with single blanks between, ended by 0A. A line is of no version: the names are one table's, and what a version has the latest has too (opcode,
-- row-latest).
use Rattle.std.specs.Prelude.{ℕ, List, [], ◌∷◌, ◌++◌, map, ℤ, pos}
use Rattle.text.specs.Decimal.{decimal, spelled}
use Rattle.text.specs.Words.{newline, joined}
use Rattle.leb128.specs.Bits.{integer}
use Rattle.opcode.specs.Kind.{Kind, kind_name}
use Rattle.opcode.specs.Table.{latest, name_at}
use Rattle.instr.specs.declared.Instr.{Instr}
use Rattle.instr.specs.Layout.{Field, number, raw, fields_of, row_in}

-- in one pair of brackets
unfoldable pub bracketed : List Kind → List ℕ
bracketed κs = 0x5B ∷ joined (map kind_name κs) ++ 0x5D ∷ []

abbrev pub mnemonic : Instr → List ℕ
mnemonic i = name_at i.first i.number

-- a number of the file is one, and so is each of the bytes that stand as they are, a block type among them
abbrev pub numbers : List Field → List ℤ
numbers [] = []
numbers (number sign N v ∷ fs) = integer sign N v ∷ numbers fs
numbers (raw bs ∷ fs) = map pos bs ++ numbers fs

-- in file order
unfoldable pub immediates : Instr → List ℤ
immediates i = numbers (fields_of (row_in latest i) i)

-- what is told of the instruction, after its place
abbrev pub words : List Kind → Instr → List (List ℕ)
words κs i = bracketed κs ∷ mnemonic i ∷ map spelled (immediates i)

unfoldable pub line : ℕ → List Kind → Instr → List ℕ
line p κs i = joined (decimal p ∷ words κs i) ++ newline ∷ []
