-- Which words name which command.
use Rattle.std.specs.Prelude.{◌≡◌, ◌≢◌, ⊤, ℕ, List, [], ◌∷◌, map, codes, Option, Some, None, String}
use Rattle.std.specs.String.{string_bytes}
use Rattle.std.specs.declared.alloc.Global.{Global}
use Rattle.hook_commands.specs.declared.asking.AskWords.{AskWords}
use Rattle.insn.specs.declared.layout.Layout.TheVariants.{V1, V2}
use Rattle.commands.specs.declared.command.Command.{Command}
use Rattle.commands.specs.declared.command.Command.TheVariants as commands
use Rattle.commands.specs.declared.command.HelpWord.TheVariants.{Help, Long, Short}

-- the words behind the program's name
abbrev pub Arguments : Type 0
Arguments = List (String Global)

-- the words that tell an ask
abbrev pub ask_words : AskWords → List (List ℕ)
ask_words w = w.kind.now ∷ w.now.now ∷ w.client.now ∷ w.owner.now ∷ w.scope.now ∷ w.life.now ∷ []

-- the words that name a command
abbrev pub words_of_command : Command → List (List ℕ)
words_of_command (commands.Run code_hex record_hex) = codes "run" ∷ code_hex.now ∷ record_hex.now ∷ []
words_of_command (commands.Trace code_hex record_hex) = codes "run" ∷ codes "--trace" ∷ code_hex.now ∷ record_hex.now ∷ []
words_of_command (commands.Assemble path) = codes "asm" ∷ path.now ∷ []
words_of_command (commands.List path) = codes "list" ∷ path.now ∷ []
words_of_command (commands.ListSlots path) = codes "list" ∷ codes "--slots" ∷ path.now ∷ []
words_of_command (commands.Check V1 path) = codes "check" ∷ path.now ∷ []
words_of_command (commands.Check V2 path) = codes "check2" ∷ path.now ∷ []
words_of_command (commands.Why V1 path) = codes "check" ∷ codes "--why" ∷ path.now ∷ []
words_of_command (commands.Why V2 path) = codes "check2" ∷ codes "--why" ∷ path.now ∷ []
words_of_command (commands.Ask V1 words) = codes "ask" ∷ ask_words words
words_of_command (commands.Ask V2 words) = codes "ask2" ∷ ask_words words
words_of_command (commands.Registry path) = codes "registry" ∷ path.now ∷ []
words_of_command (commands.State path) = codes "state" ∷ path.now ∷ []
words_of_command (commands.StateFront path) = codes "state" ∷ codes "--front" ∷ path.now ∷ []
words_of_command (commands.Replay path) = codes "replay" ∷ path.now ∷ []
words_of_command (commands.Help Help) = codes "help" ∷ []
words_of_command (commands.Help Long) = codes "--help" ∷ []
words_of_command (commands.Help Short) = codes "-h" ∷ []
words_of_command (commands.Explain name) = codes "help" ∷ name.now ∷ []
words_of_command commands.Version = codes "--version" ∷ []

abbrev pub IsCommand : Arguments → Command → Type 0
IsCommand words command = map string_bytes words ≡ words_of_command command

abbrev pub IsNoCommand : Arguments → Type 0
IsNoCommand words = (command : Command) → map string_bytes words ≢ words_of_command command

-- a command that tells an ask
abbrev pub IsAsking : Command → Type 0
IsAsking (commands.Ask layout words) = ⊤
IsAsking command = ⊥

-- a command about a file that has an option
abbrev pub IsOptional : Command → Type 0
IsOptional (commands.ListSlots path) = ⊤
IsOptional (commands.Why layout path) = ⊤
IsOptional (commands.StateFront path) = ⊤
IsOptional command = ⊥

-- no command has these words
abbrev pub NameNone : List (List ℕ) → Type 0
NameNone words = (command : Command) → words_of_command command ≢ words

-- none that has an option has them
abbrev pub NameNoOptional : List (List ℕ) → Type 0
NameNoOptional words = (command : Command) → IsOptional command → words_of_command command ≢ words

-- the path of the file that a command is about
abbrev pub file_named_by : Command → Option (List ℕ)
file_named_by (commands.Assemble path) = Some path.now
file_named_by (commands.List path) = Some path.now
file_named_by (commands.ListSlots path) = Some path.now
file_named_by (commands.Check layout path) = Some path.now
file_named_by (commands.Why layout path) = Some path.now
file_named_by (commands.Registry path) = Some path.now
file_named_by (commands.State path) = Some path.now
file_named_by (commands.StateFront path) = Some path.now
file_named_by (commands.Replay path) = Some path.now
file_named_by command = None
