-- The numbers of owners and clients.
use Rattle.std.specs.Prelude.{◌≡◌, ℕ, List, String, is_some, if◌then◌else◌, Option, Result, Ok, Err}
use Rattle.clients.specs.Names.{position_from, ConfigFault, Twice}
use Rattle.std.specs.declared.alloc.Global.{Global}
use Rattle.std.specs.BTreeMap.{BTreeMap, get_by_text}
use Rattle.std.specs.Str.{bytes_eq}

-- the number of a text among these: its place, counted from 1
abbrev pub number_among : List ℕ → List (List ℕ) → Option ℕ
number_among text texts = position_from (bytes_eq text) 1 texts

-- the text, if it is none of these
abbrev pub new_among : List (List ℕ) → List ℕ → Result (List ℕ) ConfigFault
new_among texts text = if is_some (number_among text texts) then Err Twice else Ok text

-- the map has the number of each text among these, and no other
abbrev pub IsIndex : BTreeMap (String Global) ℕ → List (List ℕ) → Type 0
IsIndex numbers texts = (text : List ℕ) → get_by_text numbers text ≡ number_among text texts
