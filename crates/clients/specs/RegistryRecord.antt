-- What a registry has.
use Rattle.std.specs.Prelude.{ℕ, List, Bool, Option}
use Rattle.clients.specs.OwnerRecord.{OwnerRecord}
use Rattle.clients.specs.ClientRecord.{ClientRecord}
use Rattle.clients.specs.declared.limits.Limits.{Limits}

-- the lives of access and refresh tokens in seconds, the digest of the operator's key, the owners and whether they state their
-- numbers, the scope names, the clients, the digest of the gateway's key, if there is one, and what is kept at most
pub record RegistryRecord : Type 0 where
  pub access_life : ℕ
  pub refresh_life : ℕ
  pub operator : List ℕ
  pub owners : List OwnerRecord
  pub numbered : Bool
  pub scopes : List (List ℕ)
  pub clients : List ClientRecord
  pub gateway : Option (List ℕ)
  pub limits : Limits
