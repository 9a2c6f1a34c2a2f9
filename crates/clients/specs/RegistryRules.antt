-- What holds of every registry that was read.
use Rattle.std.specs.Prelude.{◌≡◌, ◌<◌, ◌≤◌, ◌^◌, ℕ, List, length, true, false, All, Some, IfSome}
use Rattle.sha2.specs.Sha256.{sha256}
use Rattle.clients.specs.Names.{list_all, any_twice, IsCatalogue}
use Rattle.clients.specs.Limits.{life_limit, secret_count_limit, greatest_limit}
use Rattle.registry_json.specs.Texts.{is_identifier, is_key}
use Rattle.clients.specs.Redirect.{is_redirect}
use Rattle.clients.specs.Clients.{ids}
use Rattle.clients.specs.OwnerRecord.{OwnerRecord}
use Rattle.clients.specs.Owners.{owner_listed}
use Rattle.clients.specs.ClientRecord.{ClientRecord}
use Rattle.clients.specs.RegistryRecord.{RegistryRecord}

-- a limit that a registry may state
abbrev pub IsLimit : ℕ → Type 0
IsLimit limit = (1 ≤ limit) × (limit ≤ greatest_limit)

-- a client's identifier and redirect URIs are such, it has one secret or two, and its room is a limit
pub record IsClient (client : ClientRecord) : Type 0 where
  pub id : is_identifier client.id ≡ true
  pub secrets : (1 ≤ length client.secrets) × (length client.secrets ≤ secret_count_limit)
  pub redirects : list_all is_redirect client.redirects ≡ true
  pub records : IfSome client.records IsLimit

-- and what it may be allowed are names of these
pub record IsClientOf (scopes : List (List ℕ)) (client : ClientRecord) : Type 0 where
  pub is_client : IsClient client
  pub allowed : (0 < client.allowed) × (client.allowed < 2 ^ length scopes)

-- an owner has a number, and what it is called is 1 to 128 visible characters of this digest
pub record IsOwner (owner : OwnerRecord) : Type 0 where
  pub number : 1 ≤ owner.number
  pub sub : IfSome owner.sub (λ text. (is_key text ≡ true) × (owner.sub_digest ≡ Some (sha256 text)))

-- each is an owner, and the only one of its number
pub record AreOwners (owners : List OwnerRecord) : Type 0 where
  pub each : All IsOwner owners
  pub apart : All (λ o. owner_listed o.number owners ≡ Some o) owners

-- 1 to 31,536,000 seconds
abbrev pub IsLife : ℕ → Type 0
IsLife life = (1 ≤ life) × (life ≤ life_limit)

-- lives within their limits, owners, a catalogue, clients whose scopes are of it, no two clients of one identifier, and limits
pub record IsRegistry (rules : RegistryRecord) : Type 0 where
  pub access_life : IsLife rules.access_life
  pub refresh_life : IsLife rules.refresh_life
  pub owners : AreOwners rules.owners
  pub scopes : IsCatalogue rules.scopes
  pub clients : All (IsClientOf rules.scopes) rules.clients
  pub distinct : any_twice (ids rules.clients) ≡ false
  pub records : IsLimit rules.limits.records
  pub consents : IsLimit rules.limits.consents
