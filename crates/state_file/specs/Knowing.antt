-- What is known of a file's batches.
use Rattle.std.specs.Prelude.{◌≡◌, ◌+◌, ◌<◌, ◌≤◌, ◌^◌, ◌/◌, ◌&&◌, ℕ, List, [], ◌∷◌, Bool, length, take, drop, Some, if◌then◌else◌, ◌⊎◌, ⊤}
use Rattle.std.specs.List.{list_any}
use Rattle.state_file.specs.Names.{recovered, frames_size, bytes_eq, Basis, Until, Rules, Event, RulesFact, rules_spelling}
use Rattle.batch_file.specs.Frames.{IsReadable}
use Rattle.change_codec.specs.Keeping.{NoLater, Readable}
use Rattle.state_file.specs.Standing.{AreTold, until_of}
use Rattle.state_file.specs.Telling.{Tell, rules_in}
use Rattle.state_file.specs.declared.known.Known.{Known}

-- The batches tell the moment, or a later one; or none that is later; or they tell the rules. Whether they can be read is asked of the
-- bytes alone.
abbrev pub TellBasis : List (List ℕ) → Basis → Type 0
TellBasis batches (Until moment) = moment ≤ until_of batches
TellBasis batches (NoLater moment) = until_of batches ≤ moment
TellBasis batches (Rules rules) = Tell batches rules
TellBasis batches Readable = ⊤

-- So do the bytes of a file, by their batches; and a start reads them.
abbrev pub LeftTells : List ℕ → Basis → Type 0
LeftTells left Readable = IsReadable left
LeftTells left basis = TellBasis (recovered left) basis

-- the batch is of one change, which tells the greatest number of a family: it stands behind what was left of a list
abbrev pub tells_number : List ℕ → Bool
tells_number batch = bytes_eq (take 5 batch) (1 ∷ 0 ∷ 0 ∷ 0 ∷ 1 ∷ []) && bytes_eq (take 1 (drop 13 batch)) (8 ∷ [])

-- how many bytes the frames of the batches have up to the last such one
abbrev pub shortened_size : List (List ℕ) → ℕ
shortened_size [] = 0
shortened_size (batch ∷ later) =
    if list_any tells_number (batch ∷ later) then 21 + length batch + shortened_size later else 0

-- where the frames of these batches end
abbrev pub end_of : List (List ℕ) → ℕ
end_of batches = 16 + frames_size batches

-- the batches take more than 1 MB, and more than four times as much as was left when they were shortened
abbrev pub IsLong : ℕ → ℕ → Type 0
IsLong end shortened = (2 ^ 20 < end) × (shortened < end / 4)

-- What is known of a file's batches: how the rules are spelled that are told last, and how many bytes were left when they were
-- shortened. Where what was read was true: that they tell a list, and the greatest moment of the horizons.
pub record IsKnown (True : Type 0) (batches : List (List ℕ)) (known : Known) : Type 0 where
  pub told : True → (facts : List Event) × AreTold batches facts
  pub rules_begin : rules_in known.rules.items ≡ Some known.rules.items
  pub rules_few : length known.rules.items < 2 ^ 32
  pub rules_are : True → (rules : RulesFact) × Tell batches rules × (known.rules.items ≡ rules_spelling rules)
  pub shortened_is : known.shortened ≡ shortened_size batches
  pub until_is : True → known.until ≡ until_of batches
