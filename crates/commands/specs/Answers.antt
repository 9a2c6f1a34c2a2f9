-- What the commands answer.
use Rattle.std.specs.Prelude.{ℕ, Option, Result, Ok, Err}
use Rattle.hook_commands.specs.Answers.{IsRunOn, IsTracedOn}
use Rattle.hook_commands.specs.Asking.{IsAskedAs}
use Rattle.hook_commands.specs.File.{IsAssembledAs, IsCheckedOn, IsExplainedOn, IsListedAs, IsListedWithSlotsAs}
use Rattle.hook_commands.specs.declared.answer.HookAnswer.{HookAnswer}
use Rattle.hook_commands.specs.declared.fault.HookCommandFault.{HookCommandFault}
use Rattle.commands.specs.NamedFiles.{bytes_in}
use Rattle.commands.specs.declared.named_file.NamedFile.{NamedFile}
use Rattle.manual.specs.declared.page.TheConstants.{PAGE, VERSION}
use Rattle.commands.specs.declared.command.Command.{Command}
use Rattle.commands.specs.declared.command.Command.TheVariants as commands
use Rattle.commands.specs.declared.answer.Answer.{Answer}
use Rattle.commands.specs.declared.answer.Answer.TheVariants as answers
use Rattle.commands.specs.declared.fault.CommandFault.{CommandFault}
use Rattle.commands.specs.declared.fault.CommandFault.TheVariants as faults
use Rattle.commands.specs.Help.{IsNameExplained, IsPage}
use Rattle.commands.specs.Registries.{IsRegistryTold}
use Rattle.commands.specs.States.{IsFrontTold, IsStateTold}
use Rattle.commands.specs.Transcripts.{IsReplayedAs}

-- what a command about a hook answers
abbrev pub IsOfHook : (Result HookAnswer HookCommandFault → Type 0) → Result Answer CommandFault → Type 0
IsOfHook IsOutcome (Ok (answers.Hook answer)) = IsOutcome (Ok answer)
IsOfHook IsOutcome (Ok answer) = ⊥
IsOfHook IsOutcome (Err (faults.HookCommand fault)) = IsOutcome (Err fault)
IsOfHook IsOutcome (Err fault) = ⊥

-- what a command answers, where this is its file, and the moment, where it is known, at which a state file is looked at
abbrev pub IsAnsweredBy : Command → Option NamedFile → Option ℕ → Result Answer CommandFault → Type 0
IsAnsweredBy (commands.Run code_hex record_hex) file now outcome = IsOfHook (IsRunOn code_hex.now record_hex.now) outcome
IsAnsweredBy (commands.Trace code_hex record_hex) file now outcome = IsOfHook (IsTracedOn code_hex.now record_hex.now) outcome
IsAnsweredBy (commands.Assemble path) file now outcome = IsOfHook (IsAssembledAs path.now (bytes_in file)) outcome
IsAnsweredBy (commands.List path) file now outcome = IsOfHook (IsListedAs path.now (bytes_in file)) outcome
IsAnsweredBy (commands.ListSlots path) file now outcome = IsOfHook (IsListedWithSlotsAs path.now (bytes_in file)) outcome
IsAnsweredBy (commands.Check layout path) file now outcome = IsOfHook (IsCheckedOn layout path.now (bytes_in file)) outcome
IsAnsweredBy (commands.Why layout path) file now outcome = IsOfHook (IsExplainedOn layout path.now (bytes_in file)) outcome
IsAnsweredBy (commands.Ask layout words) file now outcome = IsOfHook (IsAskedAs layout words) outcome
IsAnsweredBy (commands.Registry path) file now outcome = IsRegistryTold path.now file outcome
IsAnsweredBy (commands.State path) file now outcome = IsStateTold path.now (bytes_in file) now outcome
IsAnsweredBy (commands.StateFront path) file now outcome = IsFrontTold path.now (bytes_in file) now outcome
IsAnsweredBy (commands.Replay path) file now outcome = IsReplayedAs path.now (bytes_in file) outcome
IsAnsweredBy (commands.Help word) file now outcome = IsPage PAGE.now outcome
IsAnsweredBy (commands.Explain name) file now outcome = IsNameExplained name.now outcome
IsAnsweredBy commands.Version file now outcome = IsPage VERSION.now outcome
