-- The codes of the inspector's card (01, "Numbers on the inspector's card"; 02, C-13, C-14), each under its name. No other statement writes a code as a
-- numeral.
use Rattle.std.specs.Prelude.{ℕ}

-- the strip's `end` completed, or a branch out of the strip
abbrev pub DONE : ℕ
DONE = 0

-- over 65,536 bytes
abbrev pub LONG : ℕ
LONG = 1

-- the file stops before the item being read is whole
abbrev pub SHORT : ℕ
SHORT = 2

-- not "WGP"
abbrev pub MARK : ℕ
MARK = 3

-- no version of the format
abbrev pub VERSION : ℕ
VERSION = 4

-- too many parameters, locals or results
abbrev pub COUNT : ℕ
COUNT = 5

-- a kind byte or a block type that is none
abbrev pub KIND : ℕ
KIND = 6

-- not assigned here
abbrev pub OPCODE : ℕ
OPCODE = 7

-- one of the 58 float instructions
abbrev pub FLOAT : ℕ
FLOAT = 8

-- LEB128 too long, or bad last bits
abbrev pub NUMBER : ℕ
NUMBER = 9

-- a lane's index too large
abbrev pub LANE : ℕ
LANE = 10

-- an alignment exponent too large
abbrev pub ALIGN : ℕ
ALIGN = 11

-- a local that is not declared
abbrev pub LOCAL : ℕ
LOCAL = 12

-- an operand missing, or of another kind
abbrev pub OPERAND : ℕ
OPERAND = 13

-- more values known on the stack, those of all open blocks counted, than it holds
abbrev pub DEEP : ℕ
DEEP = 14

-- at an `end`, the values since its block began are not the block's results; at the strip's, not the strip's
abbrev pub RESULT : ℕ
RESULT = 15

-- bytes after the strip's `end`
abbrev pub TRAILING : ℕ
TRAILING = 16

-- blocks inside blocks too deep
abbrev pub NEST : ℕ
NEST = 17

-- a branch to no block
abbrev pub LABEL : ℕ
LABEL = 18

-- the lent memory is too large
abbrev pub ROOM : ℕ
ROOM = 20

-- the arguments' buffer has another length
abbrev pub ARGS : ℕ
ARGS = 21

-- the results' buffer has another length
abbrev pub OUT : ℕ
OUT = 22

-- an argument's unused bytes are not zero
abbrev pub FORM : ℕ
FORM = 23

-- the output, or the image's buffer, is too short
abbrev pub SMALL : ℕ
SMALL = 24

-- an image that shows no sound state of the strip
abbrev pub IMAGE : ℕ
IMAGE = 25

-- an access past the memory's end
abbrev pub TRAP : ℕ
TRAP = 30

-- the steps equal the budget, and the run has not ended
abbrev pub BUDGET : ℕ
BUDGET = 31
