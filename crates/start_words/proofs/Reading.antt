-- Options that are read one after the other.
use Rattle.std.proofs.Common.{◌≡◌, List, [], ◌∷◌, ℕ, None, Ok, Some, map, refl}
use Rattle.std.specs.Prelude.{String}
use Rattle.std.specs.String.{string_bytes}
use Rattle.std.specs.declared.alloc.Global.{Global}
use Rattle.start_words.specs.Options.{Said, flag_named, flag_taken, options_after, with_option}
use Rattle.start_words.specs.declared.option.FlagName.{FlagName}

-- one option more
pub first_read : (said more : Said) (words behind rest : List (String Global)) (word : String Global) (name : List ℕ)
    → words ≡ word ∷ behind → name ≡ string_bytes word
    → options_after said (name ∷ map string_bytes behind) ≡ options_after more (map string_bytes rest)
    → options_after said (map string_bytes words) ≡ options_after more (map string_bytes rest)
first_read said more words behind rest word name first is_name taken = rw first (rw is_name at taken)

-- an option that has no value
pub flag_read : (said more : Said) (word : List ℕ) (words : List (List ℕ)) (flag : FlagName) → flag_named word ≡ Some flag → flag_taken said flag ≡ Ok more
    → options_after said (word ∷ words) ≡ options_after more words
flag_read said more word [] flag is took = rw (is, took) refl
flag_read said more word (next ∷ words) flag is took = rw (is, took) refl

-- one that has a value
pub value_read : (said more : Said) (word : List ℕ) (behind rest : List (String Global)) (value : String Global) (text : List ℕ)
    → flag_named word ≡ None → behind ≡ value ∷ rest → text ≡ string_bytes value → with_option said word text ≡ Ok more
    → options_after said (word ∷ map string_bytes behind) ≡ options_after more (map string_bytes rest)
value_read said more word behind rest value text is second is_text took = rw (second, is, ← is_text, took) refl
