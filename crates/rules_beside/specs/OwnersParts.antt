-- Beside Owners: only the contracts of this crate's own parts and their proofs cite this, no public clause.
use Rattle.std.specs.Prelude.{◌≡◌, ◌==◌, ℕ, List, Bool, true, Some, None, option_map, nat_eq, bytes_eq, if◌then◌else◌}
use Rattle.std.specs.List.{list_all, list_any}
use Rattle.std.specs.Map.{lookup}
use Rattle.std.specs.Option.{option_or}
use Rattle.change_codec.specs.Rules.{OwnerFact}
use Rattle.clients.specs.declared.bounds.OwnerBounds.{OwnerBounds}
use Rattle.rules_codec.specs.Facts.{owner_fact}
use Rattle.rules_beside.specs.Owners.{has_key, is_told, owner_told}

-- the numbers are the owners', and of each the first one's
abbrev pub AreNumbers : List (ℕ × OwnerBounds) → List OwnerFact → Type 0
AreNumbers numbers owners = (number : ℕ) → option_map owner_fact (lookup (nat_eq number) numbers) ≡ owner_told number owners

-- the owner is noted under its number, where nobody was
abbrev pub NotesOwner : OwnerBounds → List (ℕ × OwnerBounds) → List (ℕ × OwnerBounds) → Type 0
NotesOwner owner old new =
    (number : ℕ) → lookup (nat_eq number) new ≡ option_or (lookup (nat_eq number) old) (if owner.number == number then Some owner else None)

-- the keys are the owners'
abbrev pub AreKeys : List (List ℕ) → List OwnerFact → Type 0
AreKeys keys owners = (key : List ℕ) → list_any (bytes_eq key) keys ≡ has_key key owners

-- there is one key more
abbrev pub AddsKey : List ℕ → List (List ℕ) → List (List ℕ) → Type 0
AddsKey added old new = (key : List ℕ) → list_any (bytes_eq key) new ≡ (if bytes_eq added key then true else list_any (bytes_eq key) old)

-- each of the owners is listed by the others
abbrev pub are_told : List OwnerFact → List OwnerFact → Bool
are_told owners others = list_all (λ o. is_told o.number others) owners
