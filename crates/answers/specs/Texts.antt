-- What the texts in a request stand for.
use Rattle.std.specs.Prelude.{ℕ, List, Bool, Option, Some, None, option_map, if◌then◌else◌}
use Rattle.sha2.specs.Sha256.{sha256}
use Rattle.pkce.specs.Token.{token_bytes}

-- the digest of the code or token that the text may be
abbrev pub digest_told : List ℕ → Option (List ℕ)
digest_told text = option_map sha256 (token_bytes text)

-- it, if it passes the test
abbrev pub where_passes : {A : Type 0} → (A → Bool) → Option A → Option A
where_passes test None = None
where_passes test (Some x) = if test x then Some x else None
