-- The media type of a form (RFC 6749, appendix B).
use Rattle.std.specs.Prelude.{◌==◌, ◌-◌, ℕ, List, Bool, true, Option, Some, None, bytes_eq, codes, map, take, drop, length}
use Rattle.std.specs.List.{before_first, prefix_len, suffix_len}
use Rattle.std.specs.Char.{to_ascii_lowercase}

abbrev pub is_space : ℕ → Bool
is_space b = b == 32

-- the text without the spaces in front of it
abbrev pub without_front : List ℕ → List ℕ
without_front text = drop (prefix_len is_space text) text

-- the text without the spaces behind it
abbrev pub without_back : List ℕ → List ℕ
without_back text = take (length text - suffix_len is_space text) text

-- neither
abbrev pub without_spaces : List ℕ → List ℕ
without_spaces text = without_back (without_front text)

-- a Content-Type, without its parameters, is that of a form; a request may leave it out
abbrev pub is_form : Option (List ℕ) → Bool
is_form None = true
is_form (Some value) =
    bytes_eq (map to_ascii_lowercase (without_spaces (before_first (λ b. b == 59) value)))
    (codes "application/x-www-form-urlencoded")
