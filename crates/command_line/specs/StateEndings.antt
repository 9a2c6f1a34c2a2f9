-- How the commands on a state file end.
use Rattle.std.specs.Prelude.{◌≡◌, ◌⊎◌, ⊤, ℕ, List, [], unwrap_or}
use Rattle.command_line.specs.Names.{RegistryRecord, HoldsNoRegistry, HoldsRegistry, IsUntouched, Outputs, Prints, TellsFault, CommandFault, Status, Done, StateCommand, New, Trial}
use Rattle.hook_commands.specs.File.{File}
use Rattle.commands.specs.declared.fault.CommandFault.TheVariants as faults
use Rattle.command_line.specs.Makings.{FailsMaking}
use Rattle.lifetime.specs.Plans.{IsPlanOf, RefusesPlan}
use Rattle.lifetime.specs.declared.plan.Plan.{Plan}
use Rattle.state_file.specs.declared.fault.StateFault.{StateFault}
use Rattle.state_file.specs.declared.fault.StateFault.TheVariants as state
use Rattle.command_line.specs.declared.state_performing.WouldEnd.{WouldEnd}

-- so many codes and tokens would end by a start on these bytes
abbrev pub WouldEndSo : RegistryRecord → List ℕ → ℕ → Type 0
WouldEndSo registry bytes ended = (plan : Plan) × IsPlanOf registry [] bytes plan × (ended ≡ unwrap_or plan.ended 0)

-- So many codes and tokens would end: those that the narrowing to the registry ends, of the bytes that stood in the state file, and
-- none where it is not narrower. A start on these bytes would go on.
pub record IsTrial (config : File) (ended : ℕ) : Type 0 where
  pub registry : RegistryRecord
  pub held : HoldsRegistry config registry
  pub bytes : List ℕ
  pub plan : Plan
  pub is : IsPlanOf registry [] bytes plan
  pub ended_is : ended ≡ unwrap_or plan.ended 0

-- why a start would not go on on the state file: that can't be read, or it is refused
abbrev pub RefusesTrial : RegistryRecord → List ℕ → CommandFault → Type 0
RefusesTrial rules path (faults.CannotRead named) = named.now ≡ path
RefusesTrial rules path (faults.State named cause) = (named.now ≡ path) × (bytes : List ℕ) × RefusesPlan rules [] bytes cause
RefusesTrial rules path faults.OutOfMemory = ⊤
RefusesTrial rules path fault = ⊥

-- or the registry's file holds none
abbrev pub FailsTrial : List ℕ → File → List ℕ → CommandFault → Type 0
FailsTrial config file path fault =
    HoldsNoRegistry config file fault ⊎ ((registry : RegistryRecord) × HoldsRegistry file registry × RefusesTrial registry path fault)

-- why a command does nothing
abbrev pub FailsStateCommand : StateCommand → File → CommandFault → Type 0
FailsStateCommand (New path) file fault = FailsMaking path.now fault
FailsStateCommand (Trial config path) file fault = FailsTrial config.now file path.now fault

-- how many codes and tokens a start would end
abbrev pub would_end : ℕ → WouldEnd
would_end ended = record { ended = ended }

-- what is printed and told where it is done: nothing of a new file, and what a start would end
abbrev pub TellsDone : {W E : Type 0} → StateCommand → File → Outputs W E → Type 0
TellsDone (New path) file to = IsUntouched to.out × IsUntouched to.err
TellsDone (Trial config path) file to = IsUntouched to.err × (ended : ℕ) × IsTrial file ended × Prints to.out (would_end ended)

-- a command on a state file ends, where this is the registry's file: it is done, or it is told why not, and nothing is printed
abbrev pub EndsStateCommand : {W E : Type 0} → StateCommand → File → Status → Outputs W E → Type 0
EndsStateCommand command file status to =
    ((status ≡ Done) × TellsDone command file to) ⊎ (IsUntouched to.out × TellsFault (FailsStateCommand command file) status to.err)

-- PARTS: only the contracts of this crate's own parts and their proofs cite what follows

-- a state file is refused since it could not be read to its end
abbrev pub IsUnread : StateFault → Type 0
IsUnread (state.Device reason) = Unit {0}
IsUnread _ = ⊥

-- it is told that this file can't be read
abbrev pub IsCannotRead : List ℕ → CommandFault → Type 0
IsCannotRead path (faults.CannotRead named) = named.now ≡ path
IsCannotRead path _ = ⊥
