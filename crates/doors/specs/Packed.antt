-- The one number that a door hands back (01, "Numbers on the inspector's card"): code in bits 0 to 7, place in bits 8 to 31, steps in bits 32 to 63.
use Rattle.std.specs.Prelude.{ℕ, ◌/◌, ◌%◌, ◌^◌}
use Rattle.card.specs.declared.Answer.{Answer}

abbrev pub code_of : ℕ → ℕ
code_of r = r % 2 ^ 8

abbrev pub place_of : ℕ → ℕ
place_of r = r / 2 ^ 8 % 2 ^ 24

abbrev pub steps_of : ℕ → ℕ
steps_of r = r / 2 ^ 32

-- the answer that the number holds
abbrev pub answer_of : ℕ → Answer
answer_of r = record { code = code_of r; place = place_of r; steps = steps_of r }
