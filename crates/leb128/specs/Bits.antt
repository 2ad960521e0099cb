-- Core 2.0, 4.3.2 (Sign Interpretation): an integer and the N bits that hold it.
use Rattle.std.specs.Prelude.{ℕ, suc, ◌-◌, ◌^◌, Bool, true, false, cond, ltb, ℤ, pos, negsuc}

-- signed_N, and for u_n the number itself
abbrev pub integer : Bool → ℕ → ℕ → ℤ
integer false N v = pos v
integer true N v = cond (ltb v (2 ^ (N - 1))) (pos v) (negsuc (2 ^ N - suc v))

-- back: the N bits of an integer
abbrev pub bits : ℕ → ℤ → ℕ
bits N (pos n) = n
bits N (negsuc n) = 2 ^ N - suc n
