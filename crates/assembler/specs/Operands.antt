-- Numbers from digits.
use Rattle.std.specs.Prelude.{ℕ, ◌+◌, ◌-◌, ◌*◌, ◌<◌, ◌^◌, ℤ, pos, negsuc, List, [], ◌∷◌}

-- a number within 2 ^ 63 of 0
abbrev pub IsSmall : ℤ → Type 0
IsSmall (pos n) = n < 2 ^ 63
IsSmall (negsuc n) = n + 1 < 2 ^ 63

-- the number of digits that stand behind a number
abbrev pub number_from : ℕ → List ℕ → ℕ
number_from n [] = n
number_from n (c ∷ cs) = number_from (n * 10 + (c - 48)) cs

abbrev pub decimal_value : List ℕ → ℕ
decimal_value digits = number_from 0 digits
