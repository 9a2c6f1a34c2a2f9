-- Content-Length (RFC 9110, section 8.6).
use Rattle.std.specs.Prelude.{ℕ, ◌&&◌, nat_le, List, [], ◌∷◌, length, Option, Some, None, if◌then◌else◌}
use Rattle.std.specs.List.{list_all}
use Rattle.std.specs.Char.{is_ascii_digit}
use Rattle.std.specs.Str.Parse.{digits_value}
use Rattle.heads.specs.Limits.{body_size_limit, length_digit_limit}

-- the number that the digits write, 1 to 5 of them, where it is not past the limit
abbrev pub body_length : List ℕ → Option ℕ
body_length text =
    if nat_le 1 (length text) && nat_le (length text) length_digit_limit && list_all is_ascii_digit text && nat_le (digits_value 10 text) body_size_limit
    then Some (digits_value 10 text) else None

-- how long the body is by the values that were sent, 0 without one. None: they are faulty
abbrev pub length_by : List (List ℕ) → Option ℕ
length_by [] = Some 0
length_by (text ∷ []) = body_length text
length_by (text ∷ other ∷ more) = None
