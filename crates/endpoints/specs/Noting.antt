-- What is noted of what happens.
use Rattle.std.specs.Prelude.{◌≡◌, ◌++◌, ℕ, List, [], Option, Some, None, option_map}
use Rattle.consent.specs.History.{Event}
use Rattle.endpoints.specs.Names.{Changes, all_dated}
use Rattle.change_codec.specs.Batches.{Gathered}

-- what was noted, and what is ready to be noted next, where there is a batch for it
abbrev pub noted_in : Option Gathered → Option (List Event)
noted_in batch = option_map (λ b. b.facts) batch

abbrev pub prepared_in : Option Gathered → Option (List Event)
prepared_in batch = option_map (λ b. b.prepared) batch

-- the changes are ready to be noted at the moment, where anything is noted
abbrev pub ArePrepared : Option (List Event) → ℕ → Changes → Type 0
ArePrepared None moment changes = Unit {0}
ArePrepared (Some prepared) moment changes = prepared ≡ all_dated moment changes

-- nothing is ready to be noted
abbrev pub IsNothingPrepared : Option (List Event) → Type 0
IsNothingPrepared None = Unit {0}
IsNothingPrepared (Some prepared) = prepared ≡ []

-- the changes are noted at the moment, behind all that was noted
abbrev pub with_notes : Option (List Event) → ℕ → Changes → Option (List Event)
with_notes unkept moment changes = option_map (λ facts. facts ++ all_dated moment changes) unkept

-- what is ready to be noted is noted
abbrev pub NotesPrepared : Option Gathered → Option Gathered → Type 0
NotesPrepared old new =
    (moment : ℕ) (changes : Changes) → ArePrepared (prepared_in old) moment changes → noted_in new ≡ with_notes (noted_in old) moment changes
