-- The scope names of a registry, and the scope of a client (RFC 6749, section 3.3).
use Rattle.std.specs.Prelude.{ℕ, List, [], ◌∷◌, ◌++◌, length, Option, Some, None, Result, Ok, Err}
use Rattle.clients.specs.Names.{ok_or, Data, Items, no_items, item, name_fault, scope_mask, CatalogueFault, ConfigFault, BadScope, Refusal, Scopes}
use Rattle.registry_json.specs.Faults.{◌>>=◌}
use Rattle.registry_json.specs.Json.{text_of}
use Rattle.registry_json.specs.Spots.{located}
use Rattle.registry_json.specs.ScopeFaults.{fault_of_name}

-- the names with a further one, unless it has a fault
abbrev pub with_name : List (List ℕ) → List ℕ → Option CatalogueFault → Result (List (List ℕ)) ConfigFault
with_name names name None = Ok (names ++ name ∷ [])
with_name names name (Some fault) = Err (fault_of_name fault)

-- the names with that of an item
abbrev pub name_after : List (List ℕ) → Data → Result (List (List ℕ)) ConfigFault
name_after names value = do
  name ← text_of value
  with_name names name (name_fault names name)

-- the names so far, and the scope names of these items after them
abbrev pub scopes_after : List (List ℕ) → Items → Result (List (List ℕ)) Refusal
scopes_after names no_items = Ok names
scopes_after names (item d ds) = do
  more ← located (Scopes (Some (length names))) (name_after names d)
  scopes_after more ds

-- a string that is a scope text of these names: its mask
abbrev pub scope_of : List (List ℕ) → Data → Result ℕ ConfigFault
scope_of names value = do
  text ← text_of value
  ok_or (scope_mask names text) BadScope
