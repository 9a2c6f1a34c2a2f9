-- The list of dated changes that batches tell.
use Rattle.std.specs.Prelude.{ℕ, List}
use Rattle.state_file.specs.Names.{Event, StateFault, Spelling}
use Rattle.state_file.specs.Standing.{AreBehind, AreTold}
use Rattle.state_file.specs.declared.fault.StateFault.TheVariants.{Memory}

-- the batches tell no list
abbrev pub TellNone : List (List ℕ) → Type 0
TellNone batches = (facts : List Event) → AreTold batches facts → ⊥

-- why those behind a horizon are not had: memory was refused, or the bytes spell none
abbrev pub IsNoneBehind : List ℕ → StateFault → Type 0
IsNoneBehind bytes Memory = Unit {0}
IsNoneBehind bytes (Spelling fault) = (facts : List Event) → AreBehind bytes facts → ⊥
IsNoneBehind bytes _ = ⊥

-- why the list is not had: memory was refused, or they tell none
abbrev pub IsUnlisted : List (List ℕ) → StateFault → Type 0
IsUnlisted batches Memory = Unit {0}
IsUnlisted batches (Spelling fault) = TellNone batches
IsUnlisted batches _ = ⊥
