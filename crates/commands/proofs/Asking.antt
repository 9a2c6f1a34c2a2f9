-- Words that tell no ask.
use Rattle.std.proofs.Common.{◌≡◌, ◌≢◌, ℕ, List, map, Option, Some, None, IfNone, sym, ◌∙◌}
use Rattle.std.specs.String.{string_bytes}
use Rattle.commands.specs.declared.command.Command.{Command}
use Rattle.commands.specs.Words.{IsAsking, Arguments, words_of_command}

pub no_words : (words : Arguments) (o : Option Command) (texts : List (List ℕ)) → map string_bytes words ≡ texts → IfNone o ((command : Command) → words_of_command command ≢ texts)
    → IfNone o ((command : Command) → IsAsking command → map string_bytes words ≢ words_of_command command)
no_words words (Some command) texts are h = tt
no_words words None texts are h = λ command asks same. h command (sym same ∙ are)
