-- The limits of what stands in a registry.
use Rattle.std.specs.Prelude.{ℕ}

-- so many seconds is a life at most
abbrev pub life_limit : ℕ
life_limit = 31536000

-- so many characters has a key, a secret or what an owner is called at most
abbrev pub key_limit : ℕ
key_limit = 128

-- so many characters has a client identifier at most
abbrev pub identifier_limit : ℕ
identifier_limit = 64
