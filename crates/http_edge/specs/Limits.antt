-- The limits of the edge.
use Rattle.std.specs.Prelude.{ℕ, ◌+◌}
use Rattle.heads.specs.Limits.{message_size_limit}

-- so many connections are kept at most, until they are forgotten
abbrev pub connection_limit : ℕ
connection_limit = 64

-- so many bytes has a piece at most
abbrev pub piece_limit : ℕ
piece_limit = 65536

-- so many requests may a piece complete
abbrev pub request_limit : ℕ
request_limit = 64

-- so many bytes have the longest rest and the longest piece
abbrev pub room_to_hear : ℕ
room_to_hear = message_size_limit + piece_limit
