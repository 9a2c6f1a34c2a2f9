-- The commands that make a state file, or say what a start on one would end: their words.
use Rattle.std.specs.Prelude.{◌≡◌, ◌≢◌, ℕ, List, [], ◌∷◌, map, codes, Option, Some, None}
use Rattle.command_line.specs.Names.{string_bytes, StateCommand, New, Trial, Arguments}

-- the words that name one
abbrev pub words_of_state_command : StateCommand → List (List ℕ)
words_of_state_command (New path) = codes "state" ∷ codes "--new" ∷ path.now ∷ []
words_of_state_command (Trial config path) = codes "registry" ∷ config.now ∷ codes "--state" ∷ path.now ∷ []

abbrev pub IsStateCommand : Arguments → StateCommand → Type 0
IsStateCommand words command = map string_bytes words ≡ words_of_state_command command

abbrev pub IsNoStateCommand : Arguments → Type 0
IsNoStateCommand words = (command : StateCommand) → map string_bytes words ≢ words_of_state_command command

-- none has these words
abbrev pub NameNoStateCommand : List (List ℕ) → Type 0
NameNoStateCommand words = (command : StateCommand) → words_of_state_command command ≢ words

-- the path of the registry's file, where a start is tried
abbrev pub config_of_trial : StateCommand → Option (List ℕ)
config_of_trial (Trial config path) = Some config.now
config_of_trial command = None
