-- Members, texts, numbers and lists of JSON data.
use Rattle.std.specs.Prelude.{ℕ, suc, ◌&&◌, List, nat_le, if◌then◌else◌, Option, Some, None, Result, Ok, Err}
use Rattle.registry_json.specs.Names.{ok_or, Data, Items, no_items, item, get, as_str, as_number, as_u64, as_array, ConfigFault, BadShape, OutOfRange}
use Rattle.registry_json.specs.Limits.{life_limit}
use Rattle.registry_json.specs.Faults.{◌>>=◌}

-- the member of this name
abbrev pub member_of : List ℕ → Data → Result Data ConfigFault
member_of name value = ok_or (get name value) BadShape

-- the text of a string
abbrev pub text_of : Data → Result (List ℕ) ConfigFault
text_of value = ok_or (as_str value) BadShape

-- a whole number, as `as_u64` gives it: 1 to the most
abbrev pub number_within : ℕ → Option ℕ → Result ℕ ConfigFault
number_within most None = Err OutOfRange
number_within most (Some n) = if nat_le 1 n && nat_le n most then Ok n else Err OutOfRange

-- a JSON number that is one
abbrev pub number_to : ℕ → Data → Result ℕ ConfigFault
number_to most value = do
  number ← ok_or (as_number value) BadShape
  number_within most (as_u64 number)

-- one that may be absent
abbrev pub number_if_any : ℕ → Option Data → Result (Option ℕ) ConfigFault
number_if_any most None = Ok None
number_if_any most (Some value) = do
  number ← number_to most value
  Ok (Some number)

-- a life in seconds
abbrev pub life_of : Data → Result ℕ ConfigFault
life_of value = number_to life_limit value

-- the number of items
abbrev pub item_count : Items → ℕ
item_count no_items = 0
item_count (item d ds) = suc (item_count ds)

-- the items of a list
abbrev pub list_of : Data → Result Items ConfigFault
list_of value = ok_or (as_array value) BadShape

-- the items of the list of this name, of which there are from the least to the most
abbrev pub items_in : List ℕ → ℕ → ℕ → Data → Result Items ConfigFault
items_in name least most value = do
  member ← member_of name value
  items ← list_of member
  if nat_le least (item_count items) && nat_le (item_count items) most then Ok items else Err OutOfRange
