-- What the words of a command line call for, and the file that is read for it.
use Rattle.std.specs.Prelude.{◌≡◌, ⊤, ℕ, ◌-◌, Bool, false, ◌||◌, if◌then◌else◌, List, [], ◌∷◌, codes, length, map, Option, None, Some, option_map, unwrap_or, slice_get, Result, Ok, Err}
use Rattle.command_line.specs.Names.{string_bytes, Call, Command, OnList, State, CommandFault, BadArguments, BadCommand, OutOfMemory, HookSaid, file_named_by, IsCommand, Arguments}
use Rattle.std.specs.Str.{bytes_eq}
use Rattle.manual.specs.Words.{is_command}
use Rattle.command_line.specs.declared.call.Call.TheVariants.{Service}
use Rattle.commands.specs.declared.command.Command.TheVariants.{Explain}
use Rattle.command_line.specs.ListCommands.{NameList, file_of_list, password_of_list}
use Rattle.command_line.specs.Services.{config_of, hooks_installed, password_of, IsService, ServiceFails}
use Rattle.command_line.specs.StateCommands.{config_of_trial, IsStateCommand}

-- a word asks for help
abbrev pub asks_help : List ℕ → Bool
asks_help word = bytes_eq word (codes "-h") || bytes_eq word (codes "--help")

-- the command that words ask about: they begin with its name, and the last one behind it asks for help
abbrev pub helped_by : List (List ℕ) → Option (List ℕ)
helped_by [] = None
helped_by (name ∷ words) = if unwrap_or (option_map asks_help (slice_get words (length words - 1))) false then Some name else None

-- words name a call
abbrev pub NameCall : Arguments → Call → Type 0
NameCall words (Command command) = IsCommand words command
NameCall words (State command) = IsStateCommand words command
NameCall words (OnList command) = NameList (map string_bytes words) command
NameCall words (Service service) = IsService words service

-- words name no call
abbrev pub NameNoCall : Arguments → Type 0
NameNoCall words = (call : Call) → NameCall words call → ⊥

-- the command's name with which words begin
abbrev pub command_in : List (List ℕ) → Option (List ℕ)
command_in [] = None
command_in (name ∷ words) = if is_command name then Some name else None

-- how names are read: as the call that they name, and where there is none as bad arguments, of a command where they begin with
-- the name of one; but for words behind `start` of which one is missing, or is refused
abbrev pub AreNamesRead : Arguments → Result Call CommandFault → Type 0
AreNamesRead words (Ok call) = NameCall words call
AreNamesRead words (Err BadArguments) = NameNoCall words × (command_in (map string_bytes words) ≡ None)
AreNamesRead words (Err (BadCommand name)) = NameNoCall words × (command_in (map string_bytes words) ≡ Some name.now)
AreNamesRead words (Err OutOfMemory) = ⊤
AreNamesRead words (Err fault) = ServiceFails (map string_bytes words) fault

-- what a name means is asked for
abbrev pub Asks : List ℕ → Result Call CommandFault → Type 0
Asks name (Ok (Command (Explain asked))) = asked.now ≡ name
Asks name (Err OutOfMemory) = ⊤
Asks name outcome = ⊥

-- how words are read: where they ask about a command, as that, and else as what they name
abbrev pub IsReading : Option (List ℕ) → Arguments → Result Call CommandFault → Type 0
IsReading (Some name) words outcome = Asks name outcome
IsReading None words outcome = AreNamesRead words outcome

abbrev pub AreWordsRead : Arguments → Result Call CommandFault → Type 0
AreWordsRead words outcome = IsReading (helped_by (map string_bytes words)) words outcome

-- words are those of a call
abbrev pub IsCall : Arguments → Call → Type 0
IsCall words call = AreWordsRead words (Ok call)

-- the path of the file that is read for a call
abbrev pub file_of : Call → Option (List ℕ)
file_of (Command command) = file_named_by command
file_of (State command) = config_of_trial command
file_of (OnList command) = file_of_list command
file_of (Service service) = Some (config_of service)

-- the hooks whose files are read for it, too
abbrev pub hooks_named_by : Call → List HookSaid
hooks_named_by (Command command) = []
hooks_named_by (State command) = []
hooks_named_by (OnList command) = []
hooks_named_by (Service service) = hooks_installed service

-- the path of the file in which the password of a user of etcd stands, where there is one
abbrev pub password_named_by : Call → Option (List ℕ)
password_named_by (Command command) = None
password_named_by (State command) = None
password_named_by (OnList command) = password_of_list command
password_named_by (Service service) = password_of service
