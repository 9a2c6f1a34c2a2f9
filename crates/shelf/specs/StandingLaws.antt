-- What is kept on a shelf has each digest once. For proofs alone.
use Rattle.std.proofs.Common.{Option, Some, None}
use Rattle.std.specs.List.{IsDistinct}
use Rattle.std.specs.Map.{keys_of}
use Rattle.std.specs.Prelude.{ℕ}
use Rattle.std.specs.Str.{bytes_eq}
use Rattle.shelf.specs.declared.shelf.Shelf.{Shelf}
use Rattle.shelf.specs.declared.stand.Stand.{Stand}
use Rattle.shelf.specs.Shelved.{entries_in}
use Rattle.shelf.specs.Standing.{slots_or_none, stand_entries, IsShelvedIfAny, IsStanding}

pub stand_once : {R : Type 0} (until whose : R → ℕ) (stand : Stand R) → IsStanding until whose stand → IsDistinct bytes_eq (keys_of (stand_entries stand))
unfolding IsDistinct
stand_once {R} until whose stand standing = by stand.shelf standing
  where
    by : (o : Option (Shelf R)) → IsShelvedIfAny until whose o → IsDistinct bytes_eq (keys_of (entries_in (slots_or_none o)))
    by None none = tt
    by (Some shelf) stands = stands.shelved.once
