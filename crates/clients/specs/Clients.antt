-- The clients of a registry (RFC 6749, section 2).
use Rattle.std.specs.Prelude.{ℕ, List, [], ◌∷◌, ◌++◌, length, map, codes, ◌-◌, ◌==◌, slice_get, if◌then◌else◌, Bool, false, Option, None, Result, Ok, Err}
use Rattle.clients.specs.Names.{list_any, option_map_or, Data, Items, no_items, item, get, as_array, ConfigFault, OutOfRange, Refusal, Id, Secret, Redirects, Scope, Records, Client, Grants}
use Rattle.std.specs.Str.{bytes_eq}
use Rattle.clients.specs.Limits.{redirect_count_limit, greatest_limit}
use Rattle.registry_json.specs.Faults.{◌>>=◌}
use Rattle.registry_json.specs.Json.{member_of, list_of, items_in, number_if_any}
use Rattle.registry_json.specs.Texts.{identifier_of}
use Rattle.clients.specs.Keys.{sent_digest, key_digest}
use Rattle.clients.specs.Numbers.{new_among}
use Rattle.clients.specs.Redirect.{redirects_after}
use Rattle.clients.specs.Scopes.{scope_of}
use Rattle.clients.specs.Grants.{no_grants, grants_after}
use Rattle.clients.specs.ClientRecord.{ClientRecord}
use Rattle.registry_json.specs.Spots.{located}
use Rattle.registry_json.specs.declared.spot.ClientSpot.TheVariants as spot

-- the clients' identifiers
abbrev pub ids : List ClientRecord → List (List ℕ)
ids clients = map (λ c. c.id) clients

-- the client of a number
abbrev pub client_at : ℕ → List ClientRecord → Option ClientRecord
client_at number clients = if number == 0 then None else slice_get clients (number - 1)

-- whether this is a secret of the client: it has the form of a key, and one of the digests
abbrev pub has_secret : List ℕ → ClientRecord → Bool
has_secret secret client = option_map_or (λ digest. list_any (bytes_eq digest) client.secrets) (sent_digest secret) false

-- whether the text is one of the client's redirect URIs
abbrev pub has_redirect : List ℕ → ClientRecord → Bool
has_redirect uri client = list_any (bytes_eq uri) client.redirects

-- the member `id`: an identifier that none of these clients has
abbrev pub id_member : List ClientRecord → Data → Result (List ℕ) ConfigFault
id_member clients value = do
  member ← member_of (codes "id") value
  id ← identifier_of member
  new_among (ids clients) id

-- the digests of one secret or two
abbrev pub one_or_two : Items → Result (List (List ℕ)) ConfigFault
one_or_two no_items = Err OutOfRange
one_or_two (item d no_items) = do
  digest ← key_digest d
  Ok (digest ∷ [])
one_or_two (item d (item e no_items)) = do
  first ← key_digest d
  second ← key_digest e
  Ok (first ∷ second ∷ [])
one_or_two (item d (item e (item f items))) = Err OutOfRange

-- the digests of a secret, or of a list of one or two
abbrev pub secrets_of : Data → Result (List (List ℕ)) ConfigFault
secrets_of value = option_map_or one_or_two (as_array value) (one_or_two (item value no_items))

-- the member `secret`
abbrev pub secret_member : Data → Result (List (List ℕ)) ConfigFault
secret_member value = do
  member ← member_of (codes "secret") value
  secrets_of member

-- the member `redirects` of the client with the number: at most 8 redirect URIs
abbrev pub redirects_member : ℕ → Data → Result (List (List ℕ)) Refusal
redirects_member client value = do
  items ← located (Client client (Redirects None)) (items_in (codes "redirects") 0 redirect_count_limit value)
  redirects_after client [] items

-- the member `scope`: the mask of what the client may be allowed
abbrev pub scope_member : List (List ℕ) → Data → Result ℕ ConfigFault
scope_member scopes value = do
  member ← member_of (codes "scope") value
  scope_of scopes member

-- the list of the member `grants`
abbrev pub grants_in : Data → Result Items ConfigFault
grants_in value = do
  member ← member_of (codes "grants") value
  list_of member

-- the member `grants` of the client with the number
abbrev pub grants_member : ℕ → Data → Result Grants Refusal
grants_member client value = do
  items ← located (Client client (spot.Grants None)) (grants_in value)
  grants_after client 0 no_grants items

-- a client after these, where the registry has these scope names
abbrev pub client_of : List (List ℕ) → List ClientRecord → Data → Result ClientRecord Refusal
client_of scopes clients value = do
  id ← located (Client (length clients) Id) (id_member clients value)
  secrets ← located (Client (length clients) Secret) (secret_member value)
  redirects ← redirects_member (length clients) value
  allowed ← located (Client (length clients) Scope) (scope_member scopes value)
  grants ← grants_member (length clients) value
  records ← located (Client (length clients) Records) (number_if_any greatest_limit (get (codes "records") value))
  Ok (record { id = id; secrets = secrets; redirects = redirects; allowed = allowed; grants = grants; records = records })

-- the clients so far, and those of these items after them
abbrev pub clients_after : List (List ℕ) → List ClientRecord → Items → Result (List ClientRecord) Refusal
clients_after scopes clients no_items = Ok clients
clients_after scopes clients (item d ds) = do
  client ← client_of scopes clients d
  clients_after scopes (clients ++ client ∷ []) ds
