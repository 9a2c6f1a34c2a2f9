-- Beside Renewing: only the contracts of this crate's own parts and their proofs cite this, no public clause.
use Rattle.std.specs.Prelude.{◌≡◌, ◌++◌, ℕ, List, [], ◌∷◌, None}
use Rattle.state_file.specs.Names.{Event, StateFault}
use Rattle.state_file.specs.Renewing.{AreTooMuch}
use Rattle.state_file.specs.Standing.{AreTold, horizon_in}
use Rattle.state_file.specs.Telling.{rules_in}
use Rattle.state_file.specs.declared.fault.StateFault.TheVariants.{Memory, Full}

-- the batch tells no rules and no horizon
pub record IsPlain (batch : List ℕ) : Type 0 where
  pub no_rules : rules_in batch ≡ None
  pub no_horizon : horizon_in batch ≡ None

abbrev pub ArePlain : List (List ℕ) → Type 0
ArePlain [] = Unit {0}
ArePlain (batch ∷ batches) = IsPlain batch × ArePlain batches

-- batches that tell just these changes stand behind the old ones
pub record AddsChanges (facts : List Event) (old new : List (List ℕ)) : Type 0 where
  pub more : List (List ℕ)
  pub added : new ≡ old ++ more
  pub told : AreTold more facts
  pub plain : ArePlain more

-- why they do not: memory was refused, or some of them are too long for a batch
abbrev pub IsUnaddedList : List Event → StateFault → Type 0
IsUnaddedList facts Memory = Unit {0}
IsUnaddedList facts Full = AreTooMuch facts
IsUnaddedList facts _ = ⊥
