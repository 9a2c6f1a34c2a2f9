-- How the commands on a list in etcd end.
use Rattle.std.proofs.Common.{◌≡◌, ◌∙◌, ◌⊎◌, List, Ok, Option, Err, Result, Some, ap, inl, inr, refl, ℕ, subst, sym}
use Rattle.std.specs.Prelude.{IfErr, IfOk, OnOk}
use Rattle.batch_file.specs.Frames.{RefusesFile}
use Rattle.batch_file.specs.declared.framing.ReadFault.{ReadFault}
use Rattle.batch_file.specs.declared.framing.ReadFault.TheVariants as reads
use Rattle.commands.specs.Outputs.{GetsText}
use Rattle.commands.specs.Performed.{IsPrinted, IsTold, IsUntold, IsUnwritten}
use Rattle.commands.specs.Faults.{IsOfState}
use Rattle.commands.specs.States.{HasNoAccount, IsStateTold, IsUnread}
use Rattle.commands.specs.declared.fault.CommandFault.TheVariants as faults
use Rattle.commands.specs.declared.answer.Answer.{Answer}
use Rattle.commands.specs.declared.answer.Answer.TheVariants as answers
use Rattle.command_line.specs.Names.{CommandFault, Done, IsUntouched, Output, Outputs, Status}
use Rattle.command_line.specs.ListCommands.{list_of}
use Rattle.command_line.specs.ListEndings.{EndsListCommand, FailsListCommand, FailsOn, AreLines, IsListShown, IsNoState, TellsList, TellsListDone}
use Rattle.command_line.specs.declared.list_command.ListCommand.{ListCommand}
use Rattle.command_line.specs.declared.list_command.ListCommand.TheVariants.{Show}
use Rattle.hook_commands.specs.File.{File}
use Rattle.standby.specs.Listed.{IsListOf}
use Rattle.start_words.specs.declared.list.ListWords.{ListWords}
use Rattle.state_file.specs.Faults.{of_reading}

-- why a command on the list of this prefix does nothing
pub stops : (command : ListCommand) (file : File) (prefix : List ℕ) (fault : CommandFault) → prefix ≡ (list_of command).prefix.now → FailsOn command prefix file fault →
    FailsListCommand command file fault
stops command file prefix fault same why = inr (subst (λ (p : List ℕ). FailsOn command p file fault) same why)

-- an answer that shows a list has lines, and is printed as its text
pub are_lines : (prefix : List ℕ) (answer : Answer) → IsListShown prefix answer → AreLines answer
are_lines prefix (answers.Lines text) is = tt
are_lines prefix _ is = absurd is

is_text : {W : Type 0} (prefix : List ℕ) (answer : Answer) (out : Output W) → IsListShown prefix answer → IsPrinted answer out →
    (text : List ℕ) × TellsList prefix text × GetsText out text
is_text prefix (answers.Lines text) out is printed = (text.items, is, printed)
is_text prefix _ out is printed = absurd is

pub shows_list : {W E : Type 0} (command : ListCommand) (list : ListWords) (prefix : List ℕ) (file : File) (answer : Answer) (to : Outputs W E) → command ≡ Show list →
    prefix ≡ (list_of command).prefix.now → IsListShown prefix answer → IsUntouched to.err → IsPrinted answer to.out → TellsListDone command file to
shows_list command list prefix file answer to is same shown err printed =
    let text = is_text prefix answer to.out shown printed in
    let named : prefix ≡ list.prefix.now = same ∙ ap (λ (k : ListCommand). (list_of k).prefix.now) is in
    subst (λ (k : ListCommand). TellsListDone k file to) (sym is) (err, text.0, subst (λ (p : List ℕ). TellsList p text.0) named text.1, text.2)

-- a text that is told of the bytes of a list shows it
pub is_shown : (prefix bytes : List ℕ) (now : Option ℕ) (r : Result Answer CommandFault) → IsListOf prefix bytes → IsStateTold prefix (Some bytes) now r
    → IfOk r (IsListShown prefix)
is_shown prefix bytes now (Ok (answers.Lines text)) list told = (bytes, now, list, told)
is_shown prefix bytes now (Ok _) list told = absurd told
is_shown prefix bytes now (Err fault) list told = tt

is_read : (path bytes : List ℕ) (fault : CommandFault) → IsUnread path (Some bytes) fault → ⊥
is_read path bytes (faults.CannotRead named) unread = cc
is_read path bytes _ unread = unread

-- or why none is told of the bytes of a list
pub no_text : (P : CommandFault → Type 0) (prefix bytes : List ℕ) (now : Option ℕ) (r : Result Answer CommandFault) → IsStateTold prefix (Some bytes) now r →
    IfErr r (λ fault. P fault ⊎ IsNoState prefix fault)
no_text P prefix bytes now (Ok answer) told = tt
no_text P prefix bytes now (Err fault) (inl unread) = absurd (is_read prefix bytes fault unread)
no_text P prefix bytes now (Err fault) (inr refused) = inr (bytes, refused)

-- why the bytes of the file of a path are no batches
pub no_batches : (path bytes : List ℕ) (read : ReadFault) (told : CommandFault) → IsOfState path (of_reading read) told → (read ≡ reads.Memory) ⊎ RefusesFile bytes read →
    HasNoAccount path (RefusesFile bytes) told
no_batches path bytes read told (inl memory) why = rw memory.1 tt
no_batches path bytes read told (inr is) (inr refuses) = rw is.told_is (is.path_is, read, refuses, refl)
no_batches path bytes read told (inr is) (inl memory) = absurd (is.known (ap of_reading memory))

-- it is told why nothing was done
pub told_why : {W E : Type 0} (command : ListCommand) (file : File) (fault : CommandFault) (status : Status) (to : Outputs W E) → IsUntouched to.out →
    IsUntold status to.err ⊎ IsTold fault status to.err → FailsListCommand command file fault → IsUnwritten status to ⊎ EndsListCommand command file status to
told_why command file fault status to same (inl untold) why = inl (inr untold)
told_why command file fault status to same (inr told) why = inr (inr (same, record { fault = fault; cause = why; told = told }))

-- a command that prints nothing ends
pub ends_quietly : {T W E : Type 0} (command : ListCommand) (file : File) (r : Result T CommandFault) (status : Status) (to : Outputs W E) → IsUntouched to.out →
    OnOk r ((status ≡ Done) × IsUntouched to.err) → IfErr r (λ fault. IsUntold status to.err ⊎ IsTold fault status to.err) →
    IfOk r (λ _. IsUntouched to.err → TellsListDone command file to) → IfErr r (λ fault. FailsListCommand command file fault) →
    IsUnwritten status to ⊎ EndsListCommand command file status to
ends_quietly command file (Ok v) status to same done told tells fails = inr (inl (done.0, tells done.1))
ends_quietly command file (Err f) status to same done told tells fails = told_why command file f status to same told fails
