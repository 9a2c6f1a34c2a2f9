-- Beside Owners: only the contracts of this crate's own parts and their proofs cite this, no public clause.
use Rattle.std.specs.Prelude.{◌≡◌, ◌==◌, ◌++◌, ◌∷◌, [], ℕ, List, Some, cond, nat_eq, bytes_eq}
use Rattle.std.specs.Map.{lookup}
use Rattle.clients.specs.Names.{position_from}
use Rattle.clients.specs.OwnerRecord.{OwnerRecord, Listed}

-- there is the place of each owner, counted from 0, under the digest of its key, and no other
abbrev pub ArePlacesByKey : List (List ℕ × ℕ) → List OwnerRecord → Type 0
ArePlacesByKey places owners = (digest : List ℕ) → lookup (bytes_eq digest) places ≡ position_from (λ o. bytes_eq digest o.key) 0 owners

-- and under its number
abbrev pub ArePlacesByNumber : List (ℕ × ℕ) → List OwnerRecord → Type 0
ArePlacesByNumber places owners = (number : ℕ) → lookup (nat_eq number) places ≡ position_from (λ o. number == o.number) 0 owners

-- there is a further place, under a key, and under a number
abbrev pub PutsKey : List ℕ → ℕ → (old new : List (List ℕ × ℕ)) → Type 0
PutsKey key place old new = (digest : List ℕ) → lookup (bytes_eq digest) new ≡ cond (bytes_eq key digest) (Some place) (lookup (bytes_eq digest) old)

abbrev pub PutsNumber : ℕ → ℕ → (old new : List (ℕ × ℕ)) → Type 0
PutsNumber key place old new = (number : ℕ) → lookup (nat_eq number) new ≡ cond (nat_eq key number) (Some place) (lookup (nat_eq number) old)

-- the owners with a further one
abbrev pub with_owner : OwnerRecord → Listed → Listed
with_owner owner listed = record listed { owners = listed.owners ++ owner ∷ [] }
