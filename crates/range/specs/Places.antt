-- Words by their places on a line of numbers, and the words whose places lie in a range.
use Rattle.std.specs.Prelude.{ℕ, ℤ, pos, ◌+◌, ◌%◌, ◌^◌, ◌<◌, ◌≤◌, ◌-ℤ◌}
use Rattle.range.specs.Names.{Width, W32, W64}
use Rattle.range.specs.declared.unsigned.URange.{URange}

-- a word of a range: its place is not below the least of them, nor above the greatest
pub record LiesIn (place : ℕ → ℕ) (r : URange) (x : ℕ) : Type 0 where
  pub word : x < 2 ^ 64
  pub above : r.least ≤ place x
  pub below : place x ≤ r.greatest

-- the place of a word in the order of a width's signed numbers: its sign bit is turned
abbrev pub signed_place : Width → ℕ → ℕ
signed_place W32 x = (x + 2 ^ 31) % 2 ^ 32
signed_place W64 x = (x + 2 ^ 63) % 2 ^ 64

-- the signed number at a place
abbrev pub number_at : Width → ℕ → ℤ
number_at W32 n = pos n -ℤ pos (2 ^ 31)
number_at W64 n = pos n -ℤ pos (2 ^ 63)
