-- The registry that JSON text stands for, or its first fault.
use Rattle.std.specs.Prelude.{◌≤◌, ◌||◌, ℕ, List, [], length, codes, Bool, false, bytes_eq, is_some, nat_le, unwrap_or, if◌then◌else◌, IsOk, IsUtf8, Option, Some, None, Result, Ok, Err}
use Rattle.clients.specs.Names.{ok_or, option_map_or, result_ok, is_utf8, get, as_object, Data, ConfigFault, BadShape, NotJson, OutOfRange, Refusal, At, Spot}
use Rattle.std.specs.Option.{option_and_then}
use Rattle.serde_json.specs.Read.{read}
use Rattle.params.specs.Limits.{scope_name_count_limit}
use Rattle.clients.specs.Limits.{registry_limit, large_registry_limit, few_owner_limit, owner_limit, client_limit, greatest_limit, usual_record_limit, usual_consent_limit}
use Rattle.registry_json.specs.Faults.{◌>>=◌}
use Rattle.registry_json.specs.Json.{member_of, life_of, items_in, number_if_any}
use Rattle.clients.specs.Keys.{sent_digest, key_digest}
use Rattle.clients.specs.OwnerRecord.{Listed}
use Rattle.clients.specs.Owners.{owner_keyed, owners_of}
use Rattle.clients.specs.Scopes.{scopes_after}
use Rattle.clients.specs.Clients.{clients_after}
use Rattle.clients.specs.ClientRecord.{ClientRecord}
use Rattle.clients.specs.RegistryRecord.{RegistryRecord}
use Rattle.registry_json.specs.Spots.{located, fault_of}
use Rattle.clients.specs.declared.limits.Limits.{Limits}
use Rattle.registry_json.specs.declared.spot.Spot.TheVariants as spot

-- the member of this name: a life
abbrev pub life_member : List ℕ → Data → Result ℕ ConfigFault
life_member name value = do
  member ← member_of name value
  life_of member

-- the member `operator`
abbrev pub operator_member : Data → Result (List ℕ) ConfigFault
operator_member value = do
  member ← member_of (codes "operator") value
  key_digest member

-- the data is an object with a member `limits`
abbrev pub has_limits : Data → Bool
has_limits value = is_some (get (codes "limits") value)

-- so many owners at most
abbrev pub owner_count_limit : Data → ℕ
owner_count_limit value = if has_limits value then owner_limit else few_owner_limit

-- the member `owners`: at most 4,096 owners, or 65,536 where there are limits
abbrev pub owners_member : Data → Result Listed Refusal
owners_member value = do
  items ← located (spot.Owners None) (items_in (codes "owners") 0 (owner_count_limit value) value)
  owners_of items

-- the member `scopes`: 1 to 64 scope names
abbrev pub scopes_member : Data → Result (List (List ℕ)) Refusal
scopes_member value = do
  items ← located (spot.Scopes None) (items_in (codes "scopes") 1 scope_name_count_limit value)
  scopes_after [] items

-- the member `clients`: at most 256 clients, whose scopes are of these names
abbrev pub clients_member : List (List ℕ) → Data → Result (List ClientRecord) Refusal
clients_member scopes value = do
  items ← located spot.Clients (items_in (codes "clients") 0 client_limit value)
  clients_after scopes [] items

-- the digest of a key that may be absent
abbrev pub key_digest_if_any : Option Data → Result (Option (List ℕ)) ConfigFault
key_digest_if_any None = Ok None
key_digest_if_any (Some value) = do
  digest ← key_digest value
  Ok (Some digest)

-- the member `gateway`, which may be absent
abbrev pub gateway_member : Data → Result (Option (List ℕ)) ConfigFault
gateway_member value = key_digest_if_any (get (codes "gateway") value)

-- the limit that an object's member of this name states, and the usual one where there is none
abbrev pub limit_member : List ℕ → ℕ → Data → Result ℕ ConfigFault
limit_member name usual value = do
  stated ← number_if_any greatest_limit (get name value)
  Ok (unwrap_or stated usual)

-- the limits that an object states
abbrev pub limits_of : Data → Result Limits Refusal
limits_of value = do
  object ← located spot.Limits (ok_or (as_object value) BadShape)
  records ← located spot.RecordLimit (limit_member (codes "records") usual_record_limit value)
  consents ← located spot.ConsentLimit (limit_member (codes "consents") usual_consent_limit value)
  Ok (record { records = records; consents = consents })

-- the limits where a registry states none
abbrev pub usual_limits : Limits
usual_limits = record { records = usual_record_limit; consents = usual_consent_limit }

-- the member `limits`, which may be absent
abbrev pub limits_member : Data → Result Limits Refusal
limits_member value = option_map_or limits_of (get (codes "limits") value) (Ok usual_limits)

-- the registry that JSON data stands for, or its first fault and where it lies
abbrev pub registry_of : Data → Result RegistryRecord Refusal
registry_of value = do
  access_life ← located spot.AccessLife (life_member (codes "access_life") value)
  refresh_life ← located spot.RefreshLife (life_member (codes "refresh_life") value)
  operator ← located spot.Operator (operator_member value)
  listed ← owners_member value
  scopes ← scopes_member value
  clients ← clients_member scopes value
  gateway ← located spot.Gateway (gateway_member value)
  limits ← limits_member value
  Ok (record {
    access_life = access_life;
    refresh_life = refresh_life;
    operator = operator;
    owners = listed.owners;
    numbered = listed.numbered;
    scopes = scopes;
    clients = clients;
    gateway = gateway;
    limits = limits;
  })

-- this is the key of a digest, and has the form of a key
abbrev pub is_key_of : List ℕ → List ℕ → Bool
is_key_of key of = option_map_or (λ digest. bytes_eq digest of) (sent_digest key) false

-- this is the operator's key: it has the form of a key, and the operator's digest
abbrev pub is_operator_key : List ℕ → RegistryRecord → Bool
is_operator_key key rules = is_key_of key rules.operator

-- an owner has the operator's key
abbrev pub has_operator_among_owners : RegistryRecord → Bool
has_operator_among_owners rules = is_some (owner_keyed rules.operator rules.owners)

-- an owner has the gateway's key, or the operator has it
abbrev pub has_gateway_among_others : RegistryRecord → Bool
has_gateway_among_others rules =
    option_map_or (λ key. is_some (owner_keyed key rules.owners) || bytes_eq key rules.operator) rules.gateway false

-- what comes before all that takes memory is right
abbrev pub AreLivesAndOperatorRight : Data → Type 0
AreLivesAndOperatorRight value =
    IsOk (life_member (codes "access_life") value) × IsOk (life_member (codes "refresh_life") value) × IsOk (operator_member value)

-- the JSON data of UTF-8 text (RFC 8259)
abbrev pub data_of : List ℕ → Result Data ConfigFault
data_of bytes = if is_utf8 bytes then ok_or (read bytes) NotJson else Err NotJson

-- what was read, or its fault
abbrev pub or_fault : {A : Type 0} → Result A Refusal → Result A ConfigFault
or_fault (Ok x) = Ok x
or_fault (Err refusal) = Err (fault_of refusal)

-- the JSON data of a long text: it has limits
abbrev pub long_data : Result Data ConfigFault → Result Data ConfigFault
long_data (Ok value) = if has_limits value then Ok value else Err OutOfRange
long_data (Err fault) = Err OutOfRange

-- the JSON data of a registry's text: it has at most 1,048,576 bytes, or at most 16,777,216 and limits
abbrev pub registry_data : List ℕ → Result Data ConfigFault
registry_data bytes =
    if nat_le (length bytes) registry_limit then data_of bytes
    else (if nat_le (length bytes) large_registry_limit then long_data (data_of bytes) else Err OutOfRange)

-- the registry that text stands for
abbrev pub registry_in : List ℕ → Result RegistryRecord ConfigFault
registry_in bytes = do
  value ← registry_data bytes
  or_fault (registry_of value)

-- where the fault lies
abbrev pub spot_of : {A : Type 0} → Result A Refusal → Option Spot
spot_of (Err (At fault spot)) = Some spot
spot_of _ = None

-- where the first fault of text lies that is no registry; none, where it is no JSON text of few enough bytes
abbrev pub spot_in : List ℕ → Option Spot
spot_in bytes = option_and_then (λ value. spot_of (registry_of value)) (result_ok (registry_data bytes))

-- text that is read as JSON at all, which takes memory: UTF-8 of at most 16,777,216 bytes
abbrev pub IsReadable : List ℕ → Type 0
IsReadable bytes = IsUtf8 bytes × (length bytes ≤ large_registry_limit)
