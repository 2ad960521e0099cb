-- 01, "Numbers on the inspector's card": the code and the place of each answer, and what is told beside them. What an answer lacks is zero.
use Rattle.std.specs.Prelude.{ℕ, ◌-◌, List, length, Option, Some, None, Result, Ok, Err}
use Rattle.card.specs.Card.{DONE, SHORT, NUMBER, SMALL}
use Rattle.leb128.specs.declared.reading.Number.{Number}
use Rattle.leb128.specs.declared.reading.NoNumber.{NoNumber}
use Rattle.leb128.specs.declared.reading.NoNumber.TheVariants.{Short, Wrong}

pub record Told : Type 0 where
  pub code : ℕ
  pub place : ℕ
  pub value : ℕ
  pub bytes : ℕ

abbrev pub told : ℕ → ℕ → ℕ → ℕ → Told
told c p v n = record { code = c; place = p; value = v; bytes = n }

-- reading at a place of the file s
abbrev pub told_read : List ℕ → ℕ → Result Number NoNumber → Told
told_read s at (Ok m) = told DONE 0 m.value m.len
told_read s at (Err Short) = told SHORT (length s) 0 0
told_read s at (Err Wrong) = told NUMBER at 0 0

-- writing from a place on: `Some` has the place after the number
abbrev pub told_wrote : ℕ → Option ℕ → Told
told_wrote at (Some p) = told DONE 0 0 (p - at)
told_wrote at None = told SMALL 0 0 0
