-- What in the text of a registry may be a mistake.
use Rattle.std.specs.Prelude.{ℕ, List, [], ◌∷◌, ◌++◌, length, map, codes, bytes_eq, string_bytes, slice_get, option_and_then, Bool, false, Option, ◌-◌, ◌==◌, ◌&&◌, if◌then◌else◌, String, Vec}
use Rattle.std.specs.declared.alloc.Global.{Global}
use Rattle.std.specs.List.{list_any}
use Rattle.std.specs.Option.{option_map_or}
use Rattle.std.specs.Result.{result_ok}
use Rattle.std.specs.Str.{is_utf8}
use Rattle.hex.specs.Hex.{decode_sized}
use Rattle.sha2.specs.Sha256.{sha256}
use Rattle.json.specs.Token.{Token, begin_object, end_object, key, string}
use Rattle.json.specs.Lex.{tokens}
use Rattle.registry_json.specs.Spots.{is_of_registry}
use Rattle.registry_warnings.specs.Names.{is_of_key, is_known_in}

-- OBJECTS that are open, the innermost last, each with the names of its members so far

abbrev pub Objects : Type 0
Objects = List (List (List ℕ))

abbrev pub names_listed : Vec (String Global) Global → List (List ℕ)
names_listed names = map string_bytes names.items

abbrev pub innermost : Objects → List (List ℕ)
innermost [] = []
innermost (names ∷ []) = names
innermost (names ∷ (more ∷ objects)) = innermost (more ∷ objects)

-- all but the innermost one
abbrev pub outer : Objects → Objects
outer [] = []
outer (names ∷ []) = []
outer (names ∷ (more ∷ objects)) = names ∷ outer (more ∷ objects)

-- the innermost one has one more member
abbrev pub with_member : List ℕ → Objects → Objects
with_member name objects = outer objects ++ (innermost objects ++ name ∷ []) ∷ []

abbrev pub last_name : List (List ℕ) → Option (List ℕ)
last_name names = slice_get names (length names - 1)

-- the name of the registry's member that is read
abbrev pub member_read : Objects → Option (List ℕ)
member_read objects = option_and_then last_name (slice_get objects 0)

-- WARNINGS

-- the name means something in the innermost object: the registry, what stands in one of its members, or a key in that
abbrev pub is_known : Objects → List ℕ → Bool
is_known objects name =
    if length objects == 1 then is_of_registry name
    else (if length objects == 2 then is_known_in (member_read objects) name else is_of_key name)

-- the objects that are open behind a token
abbrev pub after : Objects → Token → Objects
after objects begin_object = objects ++ [] ∷ []
after objects end_object = outer objects
after objects (key name) = with_member name objects
after objects _ = objects

-- a member whose name means nothing where it stands, and one that its object has already: a line each
abbrev pub unknown_text : Objects → List ℕ → List ℕ
unknown_text objects name = if is_known objects name then [] else codes "warning: unknown member " ++ name ++ codes "\n"

abbrev pub twice_text : Objects → List ℕ → List ℕ
twice_text objects name = if list_any (bytes_eq name) (innermost objects) then codes "warning: a member stands twice: " ++ name ++ codes "\n" else []

-- the 64 hexadecimal digits, in either case, of the SHA-256 of the empty text (FIPS 180-4)
abbrev pub is_empty_digest : List ℕ → Bool
is_empty_digest text = option_map_or (bytes_eq (sha256 [])) (result_ok (decode_sized text 32)) false

-- a digest in place of a key that no key has: a line
abbrev pub digest_text : Objects → List ℕ → List ℕ
digest_text objects text =
    if option_map_or is_of_key (last_name (innermost objects)) false && is_empty_digest text
    then codes "warning: a key is the SHA-256 of the empty text, which nobody can send\n" else []

abbrev pub token_warnings : Objects → Token → List ℕ
token_warnings objects (key name) = unknown_text objects name ++ twice_text objects name
token_warnings objects (string text) = digest_text objects text
token_warnings objects _ = []

-- of tokens, where these objects are open
abbrev pub warnings : Objects → List Token → List ℕ
warnings objects [] = []
warnings objects (token ∷ tokens) = token_warnings objects token ++ warnings (after objects token) tokens

-- of UTF-8 text
abbrev pub warnings_in : List ℕ → List ℕ
warnings_in bytes = if is_utf8 bytes then warnings [] (tokens bytes) else []
