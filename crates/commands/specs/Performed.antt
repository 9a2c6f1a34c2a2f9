-- How a command that answers ends: what is written, and the status that then comes.
use Rattle.std.specs.Prelude.{◌≡◌, ◌⊎◌, IfSome, ℕ, Option, Ok, Err}
use Rattle.commands.specs.declared.answer.Answer.{Answer}
use Rattle.commands.specs.declared.answer.Answer.TheVariants as answers
use Rattle.commands.specs.declared.command.Command.{Command}
use Rattle.commands.specs.declared.fault.CommandFault.{CommandFault}
use Rattle.commands.specs.declared.fault.CommandFault.TheVariants.{CannotWrite}
use Rattle.commands.specs.declared.status.Status.{Status}
use Rattle.commands.specs.declared.status.Status.TheVariants.{BadUse}
use Rattle.commands.specs.Answers.{IsAnsweredBy}
use Rattle.commands.specs.declared.named_file.NamedFile.{NamedFile}
use Rattle.commands.specs.Outputs.{Output, Outputs, GetsText, IsCutOff, IsUntouched, Prints}
use Rattle.hook_commands.specs.Printed.{hook_answer_text}
use Rattle.commands.specs.Statuses.{status_of_answer, status_of_command_fault}

-- an answer is printed: as a value, or byte by byte where a machine reads it
abbrev pub IsPrinted : {W : Type 0} → Answer → Output W → Type 0
IsPrinted (answers.Hook answer) out = Prints out answer × IfSome (hook_answer_text answer) (GetsText out)
IsPrinted (answers.Registry told) out = Prints out told
IsPrinted (answers.Lines text) out = GetsText out text.items
IsPrinted (answers.Replayed bytes) out = GetsText out bytes.items
IsPrinted (answers.Page text) out = GetsText out text.now

-- the fault is told in its line, and the status is that of the fault
abbrev pub IsTold : {E : Type 0} → CommandFault → Status → Output E → Type 0
IsTold fault status err = (status ≡ status_of_command_fault fault) × Prints err fault

-- or it can't be told, and that is bad use
abbrev pub IsUntold : {E : Type 0} → Status → Output E → Type 0
IsUntold status err = (status ≡ BadUse) × IsCutOff err

-- an answer could not be written, which is told; or what was to be told could not be
abbrev pub IsUnwritten : {W E : Type 0} → Status → Outputs W E → Type 0
IsUnwritten status to = (IsCutOff to.out × IsTold CannotWrite status to.err) ⊎ IsUntold status to.err

-- what a command answers is printed, and it is done, or a program is refused
pub record PrintsAnswer {W : Type 0} (command : Command) (file : Option NamedFile) (now : Option ℕ) (status : Status) (out : Output W) : Type 0 where
  pub answer : Answer
  pub answered : IsAnsweredBy command file now (Ok answer)
  pub done : status ≡ status_of_answer answer
  pub printed : IsPrinted answer out

-- a fault is told in its line, one of those that come about, and the status is that of the fault
pub record TellsFault {E : Type 0} (ComesAbout : CommandFault → Type 0) (status : Status) (err : Output E) : Type 0 where
  pub fault : CommandFault
  pub cause : ComesAbout fault
  pub told : IsTold fault status err

-- A command ends, on its file and at this moment: it is done, and tells nothing; or it tells why it has no answer, and prints nothing.
abbrev pub EndsCommand : {W E : Type 0} → Command → Option NamedFile → Option ℕ → Status → Outputs W E → Type 0
EndsCommand command file now status to =
    (IsUntouched to.err × PrintsAnswer command file now status to.out) ⊎
    (IsUntouched to.out × TellsFault (λ fault. IsAnsweredBy command file now (Err fault)) status to.err)
