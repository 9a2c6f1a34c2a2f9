-- Changes of what is kept under keys, which a test tells apart.
use Rattle.std.specs.Prelude.{◌≡◌, List, ◌∷◌, Bool, Option, Some, if◌then◌else◌}
use Rattle.std.specs.List.{IsDistinct}
use Rattle.std.specs.List.Sorted.{IsPermutation}
use Rattle.std.specs.Map.{keys_of, lookup, remove_entry}

-- this was kept under the key, and is not any more
pub record IsTakenBy {K R : Type 0} (eq : K → K → Bool) (old new : List (K × R)) (key : K) (r : R) : Type 0 where
  pub found : lookup (eq key) old ≡ Some r
  pub taken : new ≡ remove_entry (eq key) old

-- it is kept too, in the place of what was kept under the key
pub record PutsBy {K R : Type 0} (eq : K → K → Bool) (old new : List (K × R)) (key : K) (r : R) (was : Option R) : Type 0 where
  pub found : lookup (eq key) old ≡ was
  pub moved : IsPermutation ((key, r) ∷ remove_entry (eq key) old) new
  pub once : IsDistinct eq (keys_of new)

-- it is found under the key, and under each other key what was
abbrev pub FindsBy : {K R : Type 0} → (K → K → Bool) → (old new : List (K × R)) → K → R → Type 0
FindsBy {K} eq old new key r = (k : K) → lookup (eq k) new ≡ (if eq key k then Some r else lookup (eq k) old)
