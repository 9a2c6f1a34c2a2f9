-- Beside Making: only the contracts of this crate's own parts and their proofs cite this, no public clause.
use Rattle.std.specs.Prelude.{ℕ, List}
use Rattle.endpoints.specs.Names.{changes_of, KeptConsents, FitsConsents, Event, with_changes}
use Rattle.consent.specs.declared.change.Change.{Change}

-- the consents that are kept are then those with the changes
abbrev pub MakesConsents : KeptConsents → List Change → KeptConsents → Type 0
MakesConsents old changes new =
    (history : List Event) (m : ℕ) → FitsConsents old history → FitsConsents new (with_changes history m (changes_of changes))
