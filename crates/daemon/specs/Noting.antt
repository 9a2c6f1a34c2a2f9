-- What the machine's sockets and clocks note in their logs.
use Rattle.std.specs.Prelude.{◌≡◌, ◌∷◌, Option}
use Rattle.outside.specs.Calls.{Call}
use Rattle.outside.specs.declared.clocks.Times.{Times}
use Rattle.daemon.specs.Calls.{Did, Told}
use Rattle.ports.specs.Passing.{KeepsPassed}
use Rattle.daemon.specs.Reloading.{KeepsServing, KeepsWanted}
use Rattle.daemon.specs.declared.machine_clocks.MachineClocks.{MachineClocks}
use Rattle.daemon.specs.declared.sockets.MachineSockets.{MachineSockets}

-- what the sockets did. By which registry the server goes, and from which file it is reloaded, stays, and so does a reload that is
-- under way; and no connection that was handed on is lost
pub record NotesCall {R : Type 0} (old : MachineSockets R) (call : Call) (new : MachineSockets R) : Type 0 where
  pub noted : new.log.calls ≡ Did call ∷ old.log.calls
  pub serving : KeepsServing old.reloads new.reloads
  pub wanted : KeepsWanted old.reloads new.reloads
  pub passed : KeepsPassed call old.ports new.ports

-- what the clocks told, if they told something
abbrev pub NotesTimes : {R : Type 0} → MachineClocks R → Option Times → MachineClocks R → Type 0
NotesTimes old times new = new.log.calls ≡ Told times ∷ old.log.calls
