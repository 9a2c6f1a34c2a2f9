-- What `help` and `--version` answer: texts of the manual.
use Rattle.std.specs.Prelude.{◌≡◌, ℕ, List, Some, None, Result, Ok, Err}
use Rattle.manual.specs.Topics.{IsSaid}
use Rattle.commands.specs.declared.answer.Answer.{Answer}
use Rattle.commands.specs.declared.answer.Answer.TheVariants as answers
use Rattle.commands.specs.declared.fault.CommandFault.{CommandFault}
use Rattle.commands.specs.declared.fault.CommandFault.TheVariants.{Unexplained}

-- what `help NAME` answers: what the manual says of the name, or that this is nothing
abbrev pub IsNameExplained : List ℕ → Result Answer CommandFault → Type 0
IsNameExplained name (Ok (answers.Page text)) = IsSaid name (Some text.now)
IsNameExplained name (Ok answer) = ⊥
IsNameExplained name (Err (Unexplained told)) = (told.now ≡ name) × IsSaid name None
IsNameExplained name (Err fault) = ⊥

-- what a command answers that prints a text of the program's own
abbrev pub IsPage : List ℕ → Result Answer CommandFault → Type 0
IsPage page (Ok (answers.Page text)) = text.now ≡ page
IsPage page (Ok answer) = ⊥
IsPage page (Err fault) = ⊥
