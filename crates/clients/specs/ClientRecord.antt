-- What a registry has of a client.
use Rattle.std.specs.Prelude.{ℕ, List, Option}
use Rattle.clients.specs.declared.grant.Grants.{Grants}

-- a client (RFC 6749, section 2): its identifier, the digests of its secrets, its redirect URIs, what scope it may be
-- allowed, the grant types that it may use, and how many codes and tokens of its families may be unexpired, if it says so
pub record ClientRecord : Type 0 where
  pub id : List ℕ
  pub secrets : List (List ℕ)
  pub redirects : List (List ℕ)
  pub allowed : ℕ
  pub grants : Grants
  pub records : Option ℕ
