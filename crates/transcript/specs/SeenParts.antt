-- Beside Seen: only the contracts of this crate's own parts and their proofs cite this, no public clause.
use Rattle.std.specs.Prelude.{◌≡◌, Option, Some, IfSome}
use Rattle.std.specs.Option.{option_map}

-- what the answer means, if there is one, is so
abbrev pub MeansOne : {A B : Type 0} → (B → Type 0) → (A → B) → Option A → Type 0
MeansOne claim meaning answer = IfSome answer (λ x. claim (meaning x))

-- whatever is so is what the answer means
abbrev pub MeansOnly : {A B : Type 0} → (B → Type 0) → (A → B) → Option A → Type 0
MeansOnly {B = B} claim meaning answer = (other : B) → claim other → option_map meaning answer ≡ Some other
