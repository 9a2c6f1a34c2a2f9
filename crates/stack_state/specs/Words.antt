-- The bytes of words, the lowest first.
use Rattle.std.specs.Prelude.{ℕ, ◌+◌, ◌*◌, ◌/◌, ◌%◌, ◌^◌}

-- byte j of a word
abbrev pub byte_of : ℕ → ℕ → ℕ
byte_of w j = w / 2 ^ (8 * j) % 256

-- so many bytes of a word, from one on
abbrev pub bytes_from : ℕ → ℕ → ℕ → ℕ
bytes_from at count w = w / 2 ^ (8 * at) % 2 ^ (8 * count)

-- a word of which so many bytes, from one on, are the low bytes of another: above them its own, and below
abbrev pub word_with : ℕ → ℕ → ℕ → ℕ → ℕ
word_with at count w x = w / 2 ^ (8 * (at + count)) * 2 ^ (8 * (at + count)) + (x % 2 ^ (8 * count) * 2 ^ (8 * at) + w % 2 ^ (8 * at))
