-- For how many requests there are draws: for so many at most, or for any number.
use Rattle.std.specs.Prelude.{◌≤◌, ◌<◌, ◌-◌, ℕ, Option, Some, None, option_map, ⊤}

-- for so many requests there are enough
abbrev pub Suffices : Option ℕ → ℕ → Type 0
Suffices None count = ⊤
Suffices (Some most) count = count ≤ most

-- for so many there are too few
abbrev pub FallsShort : Option ℕ → ℕ → Type 0
FallsShort None count = ⊥
FallsShort (Some most) count = most < count

-- what is left behind one request
abbrev pub one_fewer : Option ℕ → Option ℕ
one_fewer supply = option_map (λ most. most - 1) supply
