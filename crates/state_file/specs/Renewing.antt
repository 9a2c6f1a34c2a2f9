-- When what is left of a list takes the place of a state file's batches.
use Rattle.std.specs.Prelude.{◌≡◌, ◌++◌, ◌+◌, ◌≤◌, ◌^◌, List, [], ◌∷◌, ℕ, length}
use Rattle.consent.specs.History.{Event, event_at, greatest_family, last_moment}
use Rattle.consent.specs.History.Change.{Numbered}
use Rattle.shortening.specs.Shortened.{shortened}
use Rattle.state_file.specs.Names.{RulesFact, batch_spelling, StateFault}
use Rattle.state_file.specs.Standing.{AreTold, until_of}
use Rattle.state_file.specs.Telling.{Tell}
use Rattle.state_file.specs.declared.fault.StateFault.TheVariants.{Memory, Full}

-- the greatest number of a family that the list tells, at its last moment
abbrev pub number_told : List Event → Event
number_told list = event_at (last_moment 0 list) (Numbered (greatest_family list))

-- what is left of the list at its last moment, and then that number
abbrev pub left_numbered : List Event → List Event
left_numbered list = shortened (last_moment 0 list) list ++ number_told list ∷ []

-- The new batches tell just what is left of the list that the old ones tell, the same rules and the same moment.
pub record IsShortened (old new : List (List ℕ)) : Type 0 where
  pub left : (facts : List Event) → AreTold old facts → AreTold new (left_numbered facts)
  pub tell : (rules : RulesFact) → Tell old rules → Tell new rules
  pub until : until_of new ≡ until_of old
  -- no batch tells nothing, but those of the rules and of the moment
  pub few : (facts : List Event) → AreTold old facts → length new ≤ length (left_numbered facts) + 2

-- some of the events, one behind the other, take 2^32 bytes or more
abbrev pub AreTooMuch : List Event → Type 0
AreTooMuch facts = (before some behind : List Event) × (facts ≡ before ++ (some ++ behind)) × (2 ^ 32 ≤ length (batch_spelling some))

-- why what is left of the list is not told: memory was refused, or some of it is too long for a batch
abbrev pub IsUntoldList : List Event → StateFault → Type 0
IsUntoldList list Memory = Unit {0}
IsUntoldList list Full = AreTooMuch (left_numbered list)
IsUntoldList list _ = ⊥
