-- The owners of a registry.
use Rattle.std.specs.Prelude.{ℕ, ◌+◌, ◌==◌, List, [], ◌∷◌, ◌++◌, length, map, codes, is_some, unwrap_or, Bool, true, false, if◌then◌else◌, Option, Some, None, option_map, option_and_then, Result, Ok, Err, bytes_eq}
use Rattle.std.specs.List.{find}
use Rattle.std.specs.Option.{option_or}
use Rattle.std.specs.Fmt.{decimal}
use Rattle.sha2.specs.Sha256.{sha256}
use Rattle.clients.specs.Names.{Data, Items, no_items, item, get, ConfigFault, BadShape, Twice, Refusal, Owners}
use Rattle.registry_json.specs.Faults.{◌>>=◌}
use Rattle.clients.specs.Limits.{owner_number_limit}
use Rattle.registry_json.specs.Json.{number_to}
use Rattle.registry_json.specs.Texts.{key_of}
use Rattle.clients.specs.Keys.{sent_digest, key_digest}
use Rattle.clients.specs.Gateway.{gateway_owner}
use Rattle.clients.specs.OwnerRecord.{OwnerRecord, Listed}
use Rattle.clients.specs.RegistryRecord.{RegistryRecord}
use Rattle.registry_json.specs.Spots.{located}
use Rattle.clients.specs.declared.owner.OwnerSub.{OwnerSub}
use Rattle.clients.specs.declared.owner.OwnerSub.TheVariants.{Called, Numbered}

-- the owner with this digest of a key
abbrev pub owner_keyed : List ℕ → List OwnerRecord → Option OwnerRecord
owner_keyed digest owners = find (λ o. bytes_eq digest o.key) owners

-- the owner of a number
abbrev pub owner_listed : ℕ → List OwnerRecord → Option OwnerRecord
owner_listed number owners = find (λ o. number == o.number) owners

-- the number of the owner whose own key this is: it has the form of a key, and the owner's digest
abbrev pub own_owner : List ℕ → List OwnerRecord → Option ℕ
own_owner key owners = option_map (λ o. o.number) (option_and_then (λ digest. owner_keyed digest owners) (sent_digest key))

-- the number of the owner for whom speaks who sends this: its own key, or the gateway's with its number
abbrev pub owner_with : List ℕ → RegistryRecord → Option ℕ
owner_with key rules = option_or (own_owner key rules.owners) (gateway_owner key rules)

-- what an owner is called, who is listed, or whom a gateway may name
abbrev pub called_by : Option (List ℕ) → ℕ → Option OwnerRecord → Option (List ℕ)
called_by gateway number (Some owner) = owner.sub
called_by gateway number None = option_map (λ key. decimal number) gateway

-- what the owner of a number is called: as it is listed; where there is a gateway one who is not listed is called by the number
abbrev pub sub_of : ℕ → RegistryRecord → Option (List ℕ)
sub_of number rules = if number == 0 then None else called_by rules.gateway number (owner_listed number rules.owners)

-- the text of what an owner is called
abbrev pub sub_text : OwnerSub → List ℕ
sub_text (Called text) = text.now
sub_text (Numbered number) = decimal number

-- the key of an owner: its member `key`, or the value itself
abbrev pub key_in : Data → Data
key_in value = unwrap_or (get (codes "key") value) value

-- an optional key
abbrev pub key_if_any : Option Data → Result (Option (List ℕ)) ConfigFault
key_if_any None = Ok None
key_if_any (Some value) = do
  key ← key_of value
  Ok (Some key)

-- the member `sub`, if there is one: 1 to 128 visible characters
abbrev pub sub_member : Data → Result (Option (List ℕ)) ConfigFault
sub_member value = key_if_any (get (codes "sub") value)

-- the digest of the owner's key, which none of these owners has
abbrev pub new_among_keys : List OwnerRecord → List ℕ → Result (List ℕ) ConfigFault
new_among_keys owners key = if is_some (owner_keyed key owners) then Err Twice else Ok key

abbrev pub new_key : List OwnerRecord → Data → Result (List ℕ) ConfigFault
new_key owners value = do
  key ← key_digest (key_in value)
  new_among_keys owners key

-- the number that is stated: 1 to 4,294,967,295, and none of these owners has it
abbrev pub new_among_numbers : List OwnerRecord → ℕ → Result ℕ ConfigFault
new_among_numbers owners number = if is_some (owner_listed number owners) then Err Twice else Ok number

abbrev pub stated_number : List OwnerRecord → Data → Result ℕ ConfigFault
stated_number owners value = do
  number ← number_to owner_number_limit value
  new_among_numbers owners number

-- the number of an owner after these: stated where all state theirs, else its place, counted from 1
abbrev pub number_after : Bool → List OwnerRecord → Option Data → Result ℕ ConfigFault
number_after true owners (Some value) = stated_number owners value
number_after true owners None = Err BadShape
number_after false owners (Some value) = Err BadShape
number_after false owners None = Ok (length owners + 1)

-- an owner after these
abbrev pub owner_of : Bool → List OwnerRecord → Data → Result OwnerRecord ConfigFault
owner_of numbered owners value = do
  key ← new_key owners value
  sub ← sub_member value
  number ← number_after numbered owners (get (codes "number") value)
  Ok (record { number = number; key = key; sub = sub; sub_digest = option_map sha256 sub })

-- the owners so far, and those of these items after them
abbrev pub owners_after : Bool → List OwnerRecord → Items → Result (List OwnerRecord) Refusal
owners_after numbered owners no_items = Ok owners
owners_after numbered owners (item d ds) = do
  owner ← located (Owners (Some (length owners))) (owner_of numbered owners d)
  owners_after numbered (owners ++ owner ∷ []) ds

-- owners state their numbers where the first one does, or nobody is there
abbrev pub are_numbered : Items → Bool
are_numbered no_items = true
are_numbered (item d ds) = is_some (get (codes "number") d)

-- the owners of a list
abbrev pub owners_of : Items → Result Listed Refusal
owners_of items = do
  owners ← owners_after (are_numbered items) [] items
  Ok (record { owners = owners; numbered = are_numbered items })
