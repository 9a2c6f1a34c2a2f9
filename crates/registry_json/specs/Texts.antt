-- Keys, secrets and client identifiers.
use Rattle.std.specs.Prelude.{ℕ, List, length, Bool, ◌&&◌, ◌||◌, ◌==◌, nat_le, if◌then◌else◌, Result, Ok, Err}
use Rattle.registry_json.specs.Names.{list_all, Data, ConfigFault, OutOfRange}
use Rattle.std.specs.Char.{is_ascii_alphanumeric}
use Rattle.registry_json.specs.Limits.{key_limit, identifier_limit}
use Rattle.registry_json.specs.Faults.{◌>>=◌}
use Rattle.registry_json.specs.Json.{text_of}

-- the characters `!` to `~`
abbrev pub is_visible : ℕ → Bool
is_visible b = nat_le 0x21 b && nat_le b 0x7E

-- an owner key, the operator key or a client secret: 1 to 128 visible characters
abbrev pub is_key : List ℕ → Bool
is_key text = nat_le 1 (length text) && nat_le (length text) key_limit && list_all is_visible text

-- a letter, a digit, `-`, `.` or `_`
abbrev pub is_identifier_byte : ℕ → Bool
is_identifier_byte b = is_ascii_alphanumeric b || b == 45 || b == 46 || b == 95

-- a client identifier: 1 to 64 letters, digits, `-`, `.` and `_`
abbrev pub is_identifier : List ℕ → Bool
is_identifier text = nat_le 1 (length text) && nat_le (length text) identifier_limit && list_all is_identifier_byte text

-- a string that is a key
abbrev pub key_of : Data → Result (List ℕ) ConfigFault
key_of value = do
  text ← text_of value
  if is_key text then Ok text else Err OutOfRange

-- a string that is a client identifier
abbrev pub identifier_of : Data → Result (List ℕ) ConfigFault
identifier_of value = do
  text ← text_of value
  if is_identifier text then Ok text else Err OutOfRange
