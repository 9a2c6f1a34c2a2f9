-- What comes of a server that is started on the machine.
use Rattle.std.specs.Prelude.{◌≡◌, ℕ, List, [], map}
use Rattle.lifetime.specs.declared.life.LifeEnd.{LifeEnd}
use Rattle.batch_file.specs.declared.device.Device.{Ghosts as Device}
use Rattle.clients.specs.RegistryRecord.{RegistryRecord}
use Rattle.endpoints.specs.Server.{outset_of}
use Rattle.event_loop.specs.LoopStates.{promises}
use Rattle.outside.specs.declared.clocks.Clocks.{Ghosts as Clocks}
use Rattle.outside.specs.declared.journal.Journal.{Ghosts as Journal}
use Rattle.outside.specs.declared.sockets.Sockets.{Ghosts as Sockets}
use Rattle.hook_chain.specs.Chains.{Named}
use Rattle.hook_chain.specs.contracts.chain.ChainHookHost.TheImpl as chain
use Rattle.rules_codec.specs.Facts.{HookFact, hook_fact}
use Rattle.lifetime.specs.Anew.{IsLifeAnew, keeping_nothing}
use Rattle.lifetime.specs.Given.{given, life_promises}
use Rattle.lifetime.specs.Lives.{IsLife}
use Rattle.lifetime.specs.declared.life.Life.{Life}
use Rattle.lifetime.specs.declared.means.Means.{Means}
use Rattle.daemon.specs.Noting.{NotesCall, NotesTimes}
use Rattle.daemon.specs.Seeds.{IsSeeded}
use Rattle.daemon.specs.Timing.{timed}
use Rattle.daemon.specs.declared.timed_disk.TimedDisk.{TimedDisk}
use Rattle.line_journal.specs.declared.line_journal.LineJournal.{LineJournal}
use Rattle.daemon.specs.declared.machine_clocks.MachineClocks.{MachineClocks}
use Rattle.daemon.specs.declared.machine_random.MachineRandom.{MachineRandom}
use Rattle.daemon.specs.declared.sockets.MachineSockets.{MachineSockets}
use Rattle.line_journal.specs.Reporting.{due_each}
use Rattle.daemon.specs.declared.starting.Pace.{Pace}
use Rattle.daemon.specs.declared.starting.Served.{Served}
use Rattle.daemon.specs.declared.starting.StateTerms.{StateTerms}
use Rattle.daemon.specs.declared.starting.Terms.{Terms}

-- the machine's sockets note all that they do, and its clocks all that they tell
abbrev pub noting_sockets : {R : Type 0} → Sockets (MachineSockets R)
noting_sockets = record { does = NotesCall }

abbrev pub noting_clocks : {R : Type 0} → Clocks (MachineClocks R)
noting_clocks = record { tells = NotesTimes }

-- At first they have noted nothing. It is served by these limits, and a report is to be written each so many seconds, if at all.
pub record IsFresh {R E : Type 0} (means : Means (MachineSockets R) (MachineClocks R) (LineJournal E)) (pace : Pace) : Type 0 where
  pub undone : means.sockets.log.calls ≡ []
  pub untold : means.clocks.log.calls ≡ []
  pub limits_are : means.limits ≡ pace.limits
  pub due_is : means.journal.outlets.due ≡ due_each pace.report

-- ANEW

-- what a server is started with: its registry, its hooks as they stand in their chain, and its pace
pub record HandedAnew : Type 0 where
  pub registry : RegistryRecord
  pub hooks : List Named
  pub pace : Pace

abbrev pub handed_anew : RegistryRecord → List Named → Pace → HandedAnew
handed_anew registry hooks pace = record { registry = registry; hooks = hooks; pace = pace }

-- over the machine's sockets and clocks, and with some journal, it lived until it could not go on
pub record ServesAnew {R E : Type 0} (journal : Journal (LineJournal E)) (handed : HandedAnew) (served : Served R) : Type 0 where
  pub means : Means (MachineSockets R) (MachineClocks R) (LineJournal E)
  pub fresh : IsFresh means handed.pace
  pub seeded : IsSeeded served.random means.generator
  pub lines : LineJournal E
  pub life : IsLifeAnew (promises noting_sockets noting_clocks journal keeping_nothing chain.ghosts) (outset_of handed.registry handed.hooks) means
      (record { fault = served.fault; sockets = served.sockets; clocks = served.clocks; journal = lines })

-- ON WHAT KEEPS ITS STATE

-- what a server is started with: its registry, the code of each hook, and its pace
pub record HandedOn : Type 0 where
  pub registry : RegistryRecord
  pub hooks : List HookFact
  pub pace : Pace

abbrev pub handed_on : RegistryRecord → List HookFact → Pace → HandedOn
handed_on registry hooks pace = record { registry = registry; hooks = hooks; pace = pace }

-- by a registry, by where and how it serves, and by the hooks that it is to have
abbrev pub handed_by : RegistryRecord → Terms → StateTerms → HandedOn
handed_by registry terms state = handed_on registry (map hook_fact state.hooks.now) terms.pace

-- what keeps a server's state, as a device, and when it was opened, and asked for nothing else: it had these bytes, or begins with them,
-- where it was not read to its end
pub record Opens (D : Type 0) : Type 1 where
  pub device : Device D
  pub is_opened : D → List ℕ → Type 0

abbrev pub opens : {D : Type 0} → Device D → (D → List ℕ → Type 0) → Opens D
opens device is_opened = record { device = device; is_opened = is_opened }

-- what is left of a life: how it ended, and what it was handed by the machine
pub record Lived (R D : Type 0) : Type 0 where
  pub end : LifeEnd
  pub device : TimedDisk R D
  pub sockets : MachineSockets R
  pub clocks : MachineClocks R
  pub random : MachineRandom R

-- a life over the machine
abbrev pub MachineLife : Type 0 → Type 0 → Type 0 → Type 0
MachineLife R E D = Life (TimedDisk R D) (MachineSockets R) (MachineClocks R) (LineJournal E)

abbrev pub lived_of : {R E D : Type 0} → MachineLife R E D → MachineRandom R → Lived R D
lived_of life random = record { end = life.end; device = life.device; sockets = life.sockets; clocks = life.clocks; random = random }

-- What keeps the state was opened. Over it, the machine's sockets and clocks, and with some journal, the server lived.
pub record LivesOn {R E D : Type 0} (disk : Opens D) (journal : Journal (LineJournal E)) (handed : HandedOn) (lived : Lived R D) : Type 0 where
  pub file : TimedDisk R D
  pub bytes : List ℕ
  pub is_opened : disk.is_opened file.device bytes
  pub means : Means (MachineSockets R) (MachineClocks R) (LineJournal E)
  pub fresh : IsFresh means handed.pace
  pub seeded : IsSeeded lived.random means.generator
  pub lines : LineJournal E
  pub life : IsLife (life_promises (timed disk.device) noting_sockets noting_clocks journal) (given file bytes handed.registry handed.hooks means)
      (record { end = lived.end; device = lived.device; sockets = lived.sockets; clocks = lived.clocks; journal = lines })

-- a life went so, on the file as it was found
abbrev pub HasLivedBy : {R E D : Type 0} → Opens D → Journal (LineJournal E) → HandedOn → MachineLife R E D → Type 0
HasLivedBy {R} disk journal handed life = (random : MachineRandom R) × LivesOn disk journal handed (lived_of life random)
