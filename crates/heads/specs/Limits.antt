-- The limits of a message.
use Rattle.std.specs.Prelude.{ℕ, ◌+◌}

-- so many bytes has a head at most, with the empty lines before it
abbrev pub head_size_limit : ℕ
head_size_limit = 8192

-- so many field lines has a head at most
abbrev pub field_line_limit : ℕ
field_line_limit = 64

-- so many bytes has a body at most
abbrev pub body_size_limit : ℕ
body_size_limit = 65536

-- so many bytes has a message at most: a head and a body
abbrev pub message_size_limit : ℕ
message_size_limit = head_size_limit + body_size_limit

-- so many digits has a Content-Length at most, leading zeros among them
abbrev pub length_digit_limit : ℕ
length_digit_limit = 5
