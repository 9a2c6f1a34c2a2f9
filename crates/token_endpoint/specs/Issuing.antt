-- The tokens that are issued.
use Rattle.std.specs.Prelude.{ℕ}
use Rattle.token_endpoint.specs.Names.{sha256, NewToken, Access, Draws}
use Rattle.clients.specs.RegistryRecord.{RegistryRecord}
use Rattle.consent.specs.declared.grant.TokenKind.TheVariants.{Refresh}

-- the access token of the first draw, and the refresh token of the second one
abbrev pub access_token : Draws → ℕ → ℕ → NewToken
access_token draws scope life = record { kind = Access; digest = sha256 draws.first; scope = scope; life = life }

abbrev pub refresh_token : RegistryRecord → Draws → ℕ → NewToken
refresh_token rules draws scope = record { kind = Refresh; digest = sha256 draws.second; scope = scope; life = rules.refresh_life }
