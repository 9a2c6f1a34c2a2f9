-- The bounds of a registry, as rules. For proofs alone.
use Rattle.std.proofs.Common.{◌≡◌, ◌∙◌, ℕ, List, Option, map, refl, sym, ap}
use Rattle.std.proofs.lemmas.Simd.{map-map}
use Rattle.change_codec.specs.Rules.{OwnerFact}
use Rattle.clients.specs.Bounds.{HasBounds, client_had, client_said, owner_had, owner_said}
use Rattle.clients.specs.ClientRecord.{ClientRecord}
use Rattle.clients.specs.OwnerRecord.{OwnerRecord}
use Rattle.clients.specs.declared.bounds.Bounds.{Bounds}
use Rattle.clients.specs.declared.bounds.ClientBounds.{ClientBounds}
use Rattle.clients.specs.declared.bounds.OwnerBounds.{OwnerBounds}
use Rattle.rules_codec.specs.Facts.{client_fact, owner_fact, rules_fact}
use Rattle.state_file.specs.Names.{ClientFact, RegistryRecord}
use Rattle.state_file.specs.Telling.{client_told, fact_of, rules_of}

abbrev told : List ℕ × ℕ → ClientFact
told said = record { name = said.0; allowed = said.1 }

clients_told : (bounds : List ClientBounds) (clients : List ClientRecord) → map client_said bounds ≡ map client_had clients → map client_fact bounds ≡ map client_told clients
clients_told bounds clients same =
    sym (map-map told client_said bounds) ∙ ap (λ (said : List (List ℕ × ℕ)). map told said) same ∙ map-map told client_had clients

abbrev owner : ℕ × List ℕ × Option (List ℕ) → OwnerFact
owner said = record { number = said.0; key = said.1; sub = said.2 }

owners_told : (bounds : List OwnerBounds) (owners : List OwnerRecord) → map owner_said bounds ≡ map owner_had owners → map owner_fact bounds ≡ map fact_of owners
owners_told bounds owners same =
    sym (map-map owner owner_said bounds) ∙ ap (λ (said : List (ℕ × List ℕ × Option (List ℕ))). map owner said) same ∙ map-map owner owner_had owners

-- a registry's bounds are its rules
pub are_rules : (registry : RegistryRecord) (bounds : Bounds) → HasBounds registry bounds → rules_fact bounds ≡ rules_of registry
are_rules registry bounds has =
    rw (
      has.scopes,
      owners_told bounds.owners.items registry.owners has.owners,
      has.numbered,
      has.gateway,
      clients_told bounds.clients.items registry.clients has.clients,
      has.access_life,
      has.refresh_life,
    ) refl
