-- Owners that rules list, and who of them one is who was told.
use Rattle.std.specs.Prelude.{◌==◌, ◌||◌, not, ℕ, List, Bool, false, Option, is_some, find, bytes_eq}
use Rattle.std.specs.List.{list_any}
use Rattle.std.specs.Option.{option_map_or}
use Rattle.change_codec.specs.Rules.{OwnerFact}

-- the owner of a number, if one is listed
abbrev pub owner_told : ℕ → List OwnerFact → Option OwnerFact
owner_told number owners = find (λ o. number == o.number) owners

abbrev pub is_told : ℕ → List OwnerFact → Bool
is_told number owners = is_some (owner_told number owners)

-- somebody has the key
abbrev pub has_key : List ℕ → List OwnerFact → Bool
has_key key owners = list_any (λ o. bytes_eq key o.key) owners

-- he is called so
abbrev pub is_called : List ℕ → OwnerFact → Bool
is_called sub owner = option_map_or (bytes_eq sub) owner.sub false

-- One of the owners is who was told: he is called as that one; or, where that one was called nothing, he has that one's key, or
-- nobody has it.
abbrev pub is_same_owner : List OwnerFact → OwnerFact → OwnerFact → Bool
is_same_owner owners was owner = option_map_or (λ sub. is_called sub owner) was.sub (bytes_eq was.key owner.key || not (has_key was.key owners))

-- nobody has his number, or another one has
abbrev pub has_moved : List OwnerFact → OwnerFact → Bool
has_moved owners was = not (option_map_or (is_same_owner owners was) (owner_told was.number owners) false)
