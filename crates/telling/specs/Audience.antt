-- What was told and was not handed on yet.
use Rattle.std.specs.Prelude.{◌≡◌, ℕ, ◌+◌, ◌-◌, ◌^◌, List, [], ◌∷◌, ◌++◌, length, min, nat_lt, Option, Some, None, if◌then◌else◌}
use Rattle.std.specs.List.{fold}
use Rattle.telling.specs.declared.interest.Interest.{Interest}
use Rattle.telling.specs.declared.interest.Interest.TheVariants.{Nothing}
use Rattle.telling.specs.declared.told.Told.{Told}
use Rattle.telling.specs.Interests.{wanted_of}

-- of which requests it is to be told, for how many there is room, what was told, in its order, and how much more there was no
-- room for
pub record Audience : Type 0 where
  pub interest : Interest
  pub room : ℕ
  pub told : List Told
  pub dropped : ℕ

-- nothing was told yet
abbrev pub new_audience : Interest → ℕ → Audience
new_audience interest room = record { interest = interest; room = room; told = []; dropped = 0 }

-- what was told was handed on
abbrev pub forgotten : Audience → Audience
forgotten audience = record audience { told = []; dropped = 0 }

-- nothing of what was told is left, nor a count
pub record IsAllTold (audience : Audience) : Type 0 where
  pub told : audience.told ≡ []
  pub dropped : audience.dropped ≡ 0

-- nothing is wanted
abbrev pub nobody : Audience
nobody = new_audience Nothing 0

-- one more is heard, where there is room, and else counted: up to the greatest count
abbrev pub heard : Audience → Told → Audience
heard audience told =
    if nat_lt (length audience.told) audience.room then record audience { told = audience.told ++ told ∷ [] }
    else record audience { dropped = min (audience.dropped + 1) (2 ^ 64 - 1) }

-- one more, if there is one
abbrev pub heard_some : Audience → Option Told → Audience
heard_some audience None = audience
heard_some audience (Some told) = heard audience told

-- one more, where it is wanted
abbrev pub heard_if : Audience → Told → Audience
heard_if audience told = heard_some audience (wanted_of audience.interest told)

-- all of some that are wanted, in their order
abbrev pub heard_by : Audience → List Told → Audience
heard_by audience tolds = fold heard_if audience tolds
