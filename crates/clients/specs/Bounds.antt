-- The part of a registry that bounds grants: what their numbers mean, and how far they may reach.
use Rattle.std.specs.Prelude.{◌≡◌, ℕ, List, map, Option, is_some}
use Rattle.clients.specs.ClientRecord.{ClientRecord}
use Rattle.clients.specs.OwnerRecord.{OwnerRecord}
use Rattle.clients.specs.RegistryRecord.{RegistryRecord}
use Rattle.clients.specs.declared.bounds.Bounds.{Bounds}
use Rattle.clients.specs.declared.bounds.ClientBounds.{ClientBounds}
use Rattle.clients.specs.declared.bounds.OwnerBounds.{OwnerBounds}

-- a client's name, and what it may be allowed: as bounds say it, and as a registry has it
abbrev pub client_said : ClientBounds → List ℕ × ℕ
client_said client = (client.name.now, client.allowed)

abbrev pub client_had : ClientRecord → List ℕ × ℕ
client_had client = (client.id, client.allowed)

-- an owner's number, the digest of its key, and that of what it is called: as bounds say it, and as a registry has it
abbrev pub owner_said : OwnerBounds → ℕ × List ℕ × Option (List ℕ)
owner_said owner = (owner.number, owner.key, owner.sub)

abbrev pub owner_had : OwnerRecord → ℕ × List ℕ × Option (List ℕ)
owner_had owner = (owner.number, owner.key, owner.sub_digest)

-- these are the bounds of the registry
pub record HasBounds (registry : RegistryRecord) (bounds : Bounds) : Type 0 where
  pub scopes : map (λ s. s.now) bounds.scopes.items ≡ registry.scopes
  pub owners : map owner_said bounds.owners.items ≡ map owner_had registry.owners
  pub numbered : bounds.numbered ≡ registry.numbered
  pub gateway : bounds.gateway ≡ is_some registry.gateway
  pub clients : map client_said bounds.clients.items ≡ map client_had registry.clients
  pub access_life : bounds.access_life ≡ registry.access_life
  pub refresh_life : bounds.refresh_life ≡ registry.refresh_life
