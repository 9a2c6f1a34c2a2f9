-- Grant types (RFC 6749, section 1.3) and the sets of them.
use Rattle.std.specs.Prelude.{ℕ, ◌+◌, List, Bool, false, true, if◌then◌else◌, codes, Option, Some, None, Result, Ok}
use Rattle.clients.specs.Names.{ok_or, Data, Items, no_items, item, ConfigFault, BadShape, Refusal, Client, Grants}
use Rattle.std.specs.Str.{bytes_eq}
use Rattle.registry_json.specs.Faults.{◌>>=◌}
use Rattle.registry_json.specs.Json.{text_of}
use Rattle.registry_json.specs.Spots.{located}
use Rattle.registry_json.specs.declared.spot.ClientSpot.TheVariants as spot
use Rattle.clients.specs.declared.grant.GrantType.{GrantType}
use Rattle.clients.specs.declared.grant.GrantType.TheVariants.{AuthorizationCode, RefreshToken, ClientCredentials}

-- the grant type of a name
abbrev pub grant_named : List ℕ → Option GrantType
grant_named name =
    if bytes_eq name (codes "authorization_code") then Some AuthorizationCode
    else (if bytes_eq name (codes "refresh_token") then Some RefreshToken
    else (if bytes_eq name (codes "client_credentials") then Some ClientCredentials else None))

-- the set without members
abbrev pub no_grants : Grants
no_grants = record { authorization_code = false; refresh_token = false; client_credentials = false }

-- the set with this grant type
abbrev pub with_grant : GrantType → Grants → Grants
with_grant AuthorizationCode grants = record grants { authorization_code = true }
with_grant RefreshToken grants = record grants { refresh_token = true }
with_grant ClientCredentials grants = record grants { client_credentials = true }

-- whether the set has this grant type
abbrev pub has_grant : GrantType → Grants → Bool
has_grant AuthorizationCode grants = grants.authorization_code
has_grant RefreshToken grants = grants.refresh_token
has_grant ClientCredentials grants = grants.client_credentials

-- a string that is the name of a grant type
abbrev pub grant_type_of : Data → Result GrantType ConfigFault
grant_type_of value = do
  name ← text_of value
  ok_or (grant_named name) BadShape

-- the grant types of the client with the number so far, and those that these items name
abbrev pub grants_after : (client count : ℕ) → Grants → Items → Result Grants Refusal
grants_after client count grants no_items = Ok grants
grants_after client count grants (item d ds) = do
  grant ← located (Client client (spot.Grants (Some count))) (grant_type_of d)
  grants_after client (count + 1) (with_grant grant grants) ds
