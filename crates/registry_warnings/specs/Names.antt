-- The names that members of what stands in a registry have.
use Rattle.std.specs.Prelude.{ℕ, List, codes, Bool, true, ◌||◌, bytes_eq, if◌then◌else◌, Option, Some, None}
use Rattle.registry_json.specs.Spots.{is_of_client}

-- the members of an owner
abbrev pub is_of_owner : List ℕ → Bool
is_of_owner name = bytes_eq name (codes "key") || bytes_eq name (codes "sub") || bytes_eq name (codes "number") || bytes_eq name (codes "sha256")

-- an object that stands for a key
abbrev pub is_of_key : List ℕ → Bool
is_of_key name = bytes_eq name (codes "sha256")

-- the members of limits
abbrev pub is_of_limits : List ℕ → Bool
is_of_limits name = bytes_eq name (codes "records") || bytes_eq name (codes "consents")

-- the members of an object in the registry's member of this name. Nothing is said of what stands in a member that is not known.
abbrev pub is_known_in : Option (List ℕ) → List ℕ → Bool
is_known_in None name = true
is_known_in (Some place) name =
    if bytes_eq place (codes "clients") then is_of_client name
    else (if bytes_eq place (codes "owners") then is_of_owner name
    else (if bytes_eq place (codes "operator") || bytes_eq place (codes "gateway") then is_of_key name
    else (if bytes_eq place (codes "limits") then is_of_limits name else true)))
