-- How the commands on a list in etcd end.
use Rattle.std.specs.Prelude.{◌≡◌, ◌⊎◌, ℕ, List, None, Option, Some}
use Rattle.command_line.specs.Names.{HoldsNoRegistry, HoldsRegistry, IsUntouched, Outputs, Prints, RegistryRecord, TellsFault, CommandFault, Status, Done}
use Rattle.hook_commands.specs.File.{File}
use Rattle.commands.specs.States.{HasNoAccount, IsStateText, IsUnread}
use Rattle.batch_file.specs.Frames.{IsReadable, RefusesFile, recovered}
use Rattle.commands.specs.Outputs.{GetsText}
use Rattle.commands.specs.declared.answer.Answer.{Answer}
use Rattle.commands.specs.declared.answer.Answer.TheVariants as answers
use Rattle.command_line.specs.Makings.{FailsMaking}
use Rattle.command_line.specs.ListCommands.{list_of}
use Rattle.command_line.specs.ListFaults.{FailsSo, IsUnasked}
use Rattle.command_line.specs.StateEndings.{IsTrial, RefusesTrial, would_end}
use Rattle.command_line.specs.declared.list_command.ListCommand.{ListCommand}
use Rattle.standby.specs.Copied.{IsNotPut, IsUntaken}
use Rattle.standby.specs.Listed.{IsListOf}
use Rattle.standby.specs.declared.fault.ListFault.{ListFault}
use Rattle.command_line.specs.declared.list_command.ListCommand.TheVariants.{From, New, Show, To, Trial}

-- what stood in the list is no state, for this fault
abbrev pub IsNoState : List ℕ → CommandFault → Type 0
IsNoState prefix fault = (bytes : List ℕ) × HasNoAccount prefix (RefusesFile bytes) fault

-- the state file of a path can't be read, or is none
abbrev pub IsNoStateFile : List ℕ → File → CommandFault → Type 0
IsNoStateFile path file fault = IsUnread path file fault ⊎ ((bytes : List ℕ) × (file ≡ Some bytes) × HasNoAccount path (RefusesFile bytes) fault)

-- the registry's file holds none, or a start on the list would not go on
abbrev pub FailsTrialOn : List ℕ → File → List ℕ → CommandFault → Type 0
FailsTrialOn config file prefix fault =
    HoldsNoRegistry config file fault ⊎ ((registry : RegistryRecord) × HoldsRegistry file registry × RefusesTrial registry prefix fault)

-- text tells what the bytes of a list stand for, as it stood at one version
abbrev pub TellsList : List ℕ → List ℕ → Type 0
TellsList prefix text = (bytes : List ℕ) × (now : Option ℕ) × IsListOf prefix bytes × IsStateText bytes now text

-- lines that are printed
abbrev pub AreLines : Answer → Type 0
AreLines (answers.Lines text) = Unit {0}
AreLines answer = ⊥

-- such lines
abbrev pub IsListShown : List ℕ → Answer → Type 0
IsListShown prefix (answers.Lines text) = TellsList prefix text.items
IsListShown prefix answer = ⊥

-- bytes are a file of these batches
abbrev pub Holds : List (List ℕ) → List ℕ → Type 0
Holds batches bytes = (recovered bytes ≡ batches) × IsReadable bytes

-- these batches are those of a state file, each of which is right
pub record IsCopyOf (file : File) (batches : List (List ℕ)) : Type 0 where
  pub bytes : List ℕ
  pub is : file ≡ Some bytes
  pub text : List ℕ
  pub told : IsStateText bytes None text
  pub same : batches ≡ recovered bytes

-- why a list is not made, or not taken
abbrev pub StopsList : ListCommand → ListFault → Type 0
StopsList (New list) cause = IsNotPut cause
StopsList (From path list) cause = IsNotPut cause
StopsList command cause = IsUntaken cause

-- why a command does nothing, beside what is wrong with the list of this prefix
abbrev pub FailsBeside : ListCommand → List ℕ → File → CommandFault → Type 0
FailsBeside (Show list) prefix file fault = IsNoState prefix fault
FailsBeside (New list) prefix file fault = ⊥
FailsBeside (From path list) prefix file fault = IsNoStateFile path.now file fault
FailsBeside (To path list) prefix file fault = FailsMaking path.now fault
FailsBeside (Trial config list) prefix file fault = FailsTrialOn config.now file prefix fault

-- why it does nothing: its list is not made, or not taken, or something else is wrong
abbrev pub FailsOn : ListCommand → List ℕ → File → CommandFault → Type 0
FailsOn command prefix file fault = FailsSo (StopsList command) prefix fault ⊎ FailsBeside command prefix file fault

-- or it is not known how the list is to be asked
abbrev pub FailsListCommand : ListCommand → File → CommandFault → Type 0
FailsListCommand command file fault =
    FailsSo (IsUnasked (list_of command)) (list_of command).prefix.now fault ⊎ FailsOn command (list_of command).prefix.now file fault

-- What is printed where it is done: what the bytes of the list stand for, what a start would end, and else nothing. A list that is
-- made of a file is made of the batches of a state file, each of which is right.
abbrev pub TellsListDone : {W E : Type 0} → ListCommand → File → Outputs W E → Type 0
TellsListDone (Show list) file to = IsUntouched to.err × (text : List ℕ) × TellsList list.prefix.now text × GetsText to.out text
TellsListDone (New list) file to = IsUntouched to.out × IsUntouched to.err
TellsListDone (From path list) file to = IsUntouched to.out × IsUntouched to.err × (batches : List (List ℕ)) × IsCopyOf file batches
TellsListDone (To path list) file to = IsUntouched to.out × IsUntouched to.err
TellsListDone (Trial config list) file to = IsUntouched to.err × (ended : ℕ) × IsTrial file ended × Prints to.out (would_end ended)

-- it is done, or it is told why not, and nothing is printed
abbrev pub EndsListCommand : {W E : Type 0} → ListCommand → File → Status → Outputs W E → Type 0
EndsListCommand command file status to =
    ((status ≡ Done) × TellsListDone command file to) ⊎ (IsUntouched to.out × TellsFault (FailsListCommand command file) status to.err)
