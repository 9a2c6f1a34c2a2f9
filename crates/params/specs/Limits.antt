-- The limits of scope names.
use Rattle.std.specs.Prelude.{ℕ}

-- so many scope names has a catalogue at most: the bits of a mask
abbrev pub scope_name_count_limit : ℕ
scope_name_count_limit = 64

-- so many characters has a scope name at most
abbrev pub scope_name_limit : ℕ
scope_name_limit = 32

-- so many bytes has a written scope text at most: 64 names of 32, and 63 spaces
abbrev pub scope_text_limit : ℕ
scope_text_limit = 2111
