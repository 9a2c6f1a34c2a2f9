-- Numbers in decimal digits.
use Rattle.std.specs.Prelude.{ℕ, List, length, Bool, ◌&&◌, nat_lt, if◌then◌else◌, Option, Some, None}
use Rattle.std.specs.Char.{is_ascii_digit}
use Rattle.std.specs.List.{list_all}
use Rattle.std.specs.Str.Parse.{digits_value}

-- one digit or more, for a number below 2^32
abbrev pub says_number : List ℕ → Bool
says_number text = nat_lt 0 (length text) && list_all is_ascii_digit text && nat_lt (digits_value 10 text) 0x100000000

-- the number that a text says
abbrev pub number_said : List ℕ → Option ℕ
number_said text = if says_number text then Some (digits_value 10 text) else None
