-- What the words behind `start` give.
use Rattle.std.specs.Prelude.{ℕ, List, Bool, ◌==◌, ◌&&◌, ◌-◌, if◌then◌else◌, length, slice_index, Option, Some, None, Result, Ok, Err}
use Rattle.std.specs.List.{list_any}
use Rattle.std.specs.Char.{is_ascii_digit}
use Rattle.start_words.specs.declared.fault.WordFault.TheVariants.{NoPort}
use Rattle.start_words.specs.declared.words.StartWords.{StartWords}
use Rattle.start_words.specs.Options.{no_address, no_config, by_place, ◌>>=◌, options_in, Refused, Said, wrong}

-- where it listens, the path of the registry's file, and the options
pub record Given : Type 0 where
  pub address : List ℕ
  pub config : List ℕ
  pub said : Said

abbrev pub given_by : StartWords → Given
given_by words = record { address = words.address.now; config = words.config.now; said = words.options }

-- an address has a colon, and ends with a digit
abbrev pub names_port : List ℕ → Bool
names_port address = list_any (λ b. b == 58) address && is_ascii_digit (slice_index address (length address - 1))

-- CONFIG, and the words behind it
abbrev pub behind_address : List ℕ → Option (List ℕ × List (List ℕ)) → Result Given Refused
behind_address address None = Err no_config
behind_address address (Some (config, words)) = do
  said ← options_in words
  Ok (record { address = address; config = config; said = said })

-- ADDR, and the words behind it
abbrev pub from_address : Option (List ℕ × List (List ℕ)) → Result Given Refused
from_address None = Err no_address
from_address (Some (address, words)) = if names_port address then behind_address address (by_place words) else Err (wrong address NoPort)

-- the words behind `start`: ADDR CONFIG [SILENCE [FULL]], and then options; an option in the place of ADDR or CONFIG is neither
abbrev pub start_in : List (List ℕ) → Result Given Refused
start_in words = from_address (by_place words)
