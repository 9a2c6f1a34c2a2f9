-- How a command line ends.
use Rattle.std.specs.Prelude.{◌≡◌, ◌⊎◌, ℕ, Option, Err}
use Rattle.command_line.specs.Names.{Call, Command, OnList, State, Status, Outputs, IsUntouched, EndsCommand, TellsFault, Arguments}
use Rattle.command_line.specs.declared.call.Call.TheVariants.{Service}
use Rattle.command_line.specs.Calls.{hooks_named_by, IsCall, AreWordsRead}
use Rattle.command_line.specs.Hooks.{said_of}
use Rattle.command_line.specs.Listening.{EndsService, ServiceFiles, registry_bytes}
use Rattle.command_line.specs.StateEndings.{EndsStateCommand}
use Rattle.command_line.specs.ListEndings.{EndsListCommand}
use Rattle.command_line.specs.Startings.{Startings}

-- a call ends on the file that it names, at some moment and, where it serves, on the files of its hooks
abbrev pub EndsCall : {W E : Type 0} → Startings → Call → ServiceFiles → Status → Outputs W E → Type 0
EndsCall starts (Command command) files status to = (now : Option ℕ) × EndsCommand command files.named now status to
EndsCall starts (State command) files status to = EndsStateCommand command (registry_bytes files) status to
EndsCall starts (OnList command) files status to = EndsListCommand command (registry_bytes files) status to
EndsCall starts (Service service) files status to = EndsService starts service files status to

-- words call for something, which ends on some files, those of the hooks that it names among them
pub record EndsAsCalled {W E : Type 0} (starts : Startings) (words : Arguments) (status : Status) (to : Outputs W E) : Type 0 where
  pub call : Call
  pub files : ServiceFiles
  pub called : IsCall words call
  pub hooks : said_of files.hooks ≡ hooks_named_by call
  pub ends : EndsCall starts call files status to

-- A command line ends, with what it prints and what it tells. Where words call for nothing, or one behind `start` is refused, or
-- memory is while they and their files are read, that is told, and nothing is printed.
abbrev pub EndsWords : {W E : Type 0} → Startings → Arguments → Status → Outputs W E → Type 0
EndsWords starts words status to =
    EndsAsCalled starts words status to ⊎ (IsUntouched to.out × TellsFault (λ fault. AreWordsRead words (Err fault)) status to.err)
