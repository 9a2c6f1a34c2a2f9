-- Who asks, for which client, and for which scope.
use Rattle.std.specs.Prelude.{ℕ, List, Bool, false, not, Option, Some, None, Result, Ok, Err, option_map, option_and_then, codes, if◌then◌else◌}
use Rattle.answers.specs.Names.{scope_mask, RegistryRecord, ids, client_at, owner_with, AuthFault, is_within, InvalidRequest, InvalidClient, AccessDenied, option_map_or}
use Rattle.std.specs.Result.{result_ok}
use Rattle.params.specs.Form.{read_params, value_sent}
use Rattle.clients.specs.ClientRecord.{ClientRecord}
use Rattle.clients.specs.Numbers.{number_among}
use Rattle.clients.specs.Registry.{is_operator_key}
use Rattle.authentication.specs.Authentication.{authenticated}
use Rattle.authentication.specs.declared.authentication.AuthFault.TheVariants as auth
use Rattle.messages.specs.Asked.{Asked}
use Rattle.messages.specs.MediaType.{is_form}
use Rattle.answers.specs.Outcomes.{Outcome, need, point, refuse, unavailable}

abbrev pub Parameters : Type 0
Parameters = List (List ℕ × List ℕ)

-- FORMS

-- the parameters of the body, where Content-Type lets it be a form
abbrev pub form_of : Asked → Option Parameters
form_of asked = if is_form asked.content_type then result_ok (read_params asked.body) else None

abbrev pub with_form : Asked → (Parameters → Outcome) → Outcome
with_form asked next = need (form_of asked) (refuse InvalidRequest) next

-- CLIENTS (RFC 6749, section 2)

-- a client with its number
pub record KnownClient : Type 0 where
  pub number : ℕ
  pub client : ClientRecord

-- the client of a number
abbrev pub known_client : RegistryRecord → ℕ → Option KnownClient
known_client rules number =
    option_map (λ client. record { number = number; client = client }) (client_at number rules.clients)

-- the client that the parameter names
abbrev pub client_named : RegistryRecord → Parameters → Option KnownClient
client_named rules params =
    option_and_then (known_client rules)
    (option_and_then (λ id. number_among id (ids rules.clients)) (value_sent (codes "client_id") params))

-- the client that was authenticated, or why none was (section 5.2)
abbrev pub with_client : RegistryRecord → Result ℕ AuthFault → (KnownClient → Outcome) → Outcome
with_client rules (Ok number) next = need (known_client rules number) unavailable next
with_client rules (Err auth.TwoMethods) next = refuse InvalidRequest
with_client rules (Err auth.NoClient) next = refuse InvalidClient
with_client rules (Err auth.BadSecret) next = refuse InvalidClient
with_client rules (Err auth.BadHeader) next = refuse InvalidClient
with_client rules (Err auth.Memory) next = unavailable

-- the point "authenticated", by the header and these parameters
abbrev pub with_credentials : RegistryRecord → Asked → Parameters → (KnownClient → Outcome) → Outcome
with_credentials rules asked params next = with_client rules (authenticated rules.clients asked.authorization params) next

-- the points "a form" and "authenticated", and then those of the parameters and the client
abbrev pub with_authenticated : RegistryRecord → Asked → (Parameters → KnownClient → Outcome) → Outcome
with_authenticated rules asked next =
    with_form asked (λ params. with_credentials rules asked params (next params))

-- OWNERS

-- the owner for whom the request speaks: by its own key, or by the gateway's with its number
abbrev pub owner_of_key : RegistryRecord → Asked → Option ℕ
owner_of_key rules asked = option_and_then (λ key. owner_with key rules) asked.owner_key

-- THE OPERATOR

-- the operator's key was sent
abbrev pub is_operator : RegistryRecord → Asked → Bool
is_operator rules asked = option_map_or (λ key. is_operator_key key rules) asked.operator_key false

-- the point "the operator's key"
abbrev pub with_operator : RegistryRecord → Asked → Outcome → Outcome
with_operator rules asked next = point (not (is_operator rules asked)) (refuse AccessDenied) next

-- SCOPES (RFC 6749, section 3.3)

-- the mask of a scope text, or this one where there is no text. None: not a scope text
abbrev pub mask_or : ℕ → List (List ℕ) → Option (List ℕ) → Option ℕ
mask_or mask names None = Some mask
mask_or mask names (Some text) = scope_mask names text

-- the scope that the parameters ask for, or this one where they ask for none
abbrev pub scope_asked : RegistryRecord → ℕ → Parameters → Option ℕ
scope_asked rules otherwise params = mask_or otherwise rules.scopes (value_sent (codes "scope") params)

-- the scope that is asked for, which is within the limit; the limit itself where none is asked for
abbrev pub scope_within : RegistryRecord → ℕ → Parameters → Option ℕ
scope_within rules limit params =
    option_and_then (λ scope. if is_within scope limit then Some scope else None) (scope_asked rules limit params)
