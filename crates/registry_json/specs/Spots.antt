-- Where in a registry its first fault lies, and the names of what it has.
use Rattle.std.specs.Prelude.{ℕ, List, ◌||◌, codes, bytes_eq, Bool, Result, Ok, Err}
use Rattle.registry_json.specs.Names.{ConfigFault, Refusal, At, Spot}
use Rattle.registry_json.specs.declared.fault.ConfigFault.TheVariants as config
use Rattle.registry_json.specs.declared.fault.Refusal.TheVariants.{Memory}

-- what was read there, or why it is refused
abbrev pub located : {A : Type 0} → Spot → Result A ConfigFault → Result A Refusal
located spot (Ok x) = Ok x
located spot (Err config.Memory) = Err Memory
located spot (Err fault) = Err (At fault spot)

abbrev pub fault_of : Refusal → ConfigFault
fault_of (At fault spot) = fault
fault_of Memory = config.Memory

-- NAMES

-- the members of a registry
abbrev pub is_of_registry : List ℕ → Bool
is_of_registry name =
    bytes_eq name (codes "access_life") || bytes_eq name (codes "refresh_life") || bytes_eq name (codes "operator")
    || bytes_eq name (codes "owners") || bytes_eq name (codes "scopes") || bytes_eq name (codes "clients")
    || bytes_eq name (codes "gateway") || bytes_eq name (codes "limits")

-- the members of a client
abbrev pub is_of_client : List ℕ → Bool
is_of_client name =
    bytes_eq name (codes "id") || bytes_eq name (codes "secret") || bytes_eq name (codes "redirects")
    || bytes_eq name (codes "scope") || bytes_eq name (codes "grants") || bytes_eq name (codes "records")
