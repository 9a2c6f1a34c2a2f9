-- How a service serves, or why it doesn't, or no longer.
use Rattle.std.specs.Prelude.{◌≡◌, ◌≢◌, ◌⊎◌, ⊤, ℕ, List, [], map, Option, Some}
use Rattle.command_line.specs.Names.{RegistryRecord, Announces, ListenFault, CommandFault, CannotWrite, OutOfMemory, Status, Done, StartWords, Serve, Start, HoldsNoRegistry, HoldsRegistry, Named, HookFact}
use Rattle.command_line.specs.Names.{IsUntouched, Output, Outputs, TellsFault}
use Rattle.commands.specs.NamedFiles.{bytes_in}
use Rattle.command_line.specs.declared.call_files.CallFiles.{CallFiles}
use Rattle.commands.specs.declared.named_file.NamedFile.{NamedFile}
use Rattle.command_line.specs.declared.service.ServeWords.{ServeWords}
use Rattle.command_line.specs.declared.service.Service.{Service}
use Rattle.command_line.specs.Faults.{IsNotOpened, IsOfService, IsUnaudited}
use Rattle.daemon.specs.ByCount.{handed_count}
use Rattle.hook_commands.specs.File.{File}
use Rattle.command_line.specs.Hooks.{AreFactsOf, HookInFile, in_file, RefusesHooks, TakesHooks}
use Rattle.command_line.specs.ListFaults.{FailsList}
use Rattle.command_line.specs.Services.{address_of, config_of}
use Rattle.start_words.specs.Lists.{Place, at_file, at_list, nowhere, place_of}
use Rattle.command_line.specs.Startings.{EndsStart, Handed, Startings}
use Rattle.commands.specs.Statuses.{status_of_command_fault}

-- the file that a call is about, a service's registry, and what stands in those of its hooks
pub record ServiceFiles : Type 0 where
  pub named : Option NamedFile
  pub hooks : List HookInFile

abbrev pub files_in : CallFiles → ServiceFiles
files_in files = record { named = files.named; hooks = map in_file files.hooks.items }

-- what stands in the registry's file
abbrev pub registry_bytes : ServiceFiles → File
registry_bytes files = bytes_in files.named

-- a service's file holds a registry, and it was printed where its server listens
pub record HasListened {W : Type 0} (file : File) (out : Output W) : Type 0 where
  pub registry : RegistryRecord
  pub held : HoldsRegistry file registry
  pub announced : Announces (out.seen out.old) (out.seen out.new)

-- `serve` served as many connections as it was told, by draws of its seed
pub record ServeEnded {W : Type 0} (starts : Startings) (service : Service) (files : ServiceFiles) (out : Output W) : Type 0 where
  pub listened : HasListened (registry_bytes files) out
  pub given : ServeWords
  pub service_is : service ≡ Serve given
  pub served : starts.by_count (handed_count listened.registry given.seed given.count)

-- the hooks of `start` are not all taken, and this is the first one's fault
pub record LacksHook (service : Service) (files : ServiceFiles) (fault : CommandFault) : Type 0 where
  pub registry : RegistryRecord
  pub held : HoldsRegistry (registry_bytes files) registry
  pub given : StartWords
  pub service_is : service ≡ Start given
  pub refused : RefusesHooks [] files.hooks fault

-- `start` has its registry and all its hooks
pub record HasAll (service : Service) (files : ServiceFiles) : Type 0 where
  pub given : StartWords
  pub service_is : service ≡ Start given
  pub registry : RegistryRecord
  pub held : HoldsRegistry (registry_bytes files) registry
  pub hooks : List Named
  pub taken : TakesHooks [] files.hooks hooks
  pub codes : List HookFact
  pub coded : AreFactsOf files.hooks codes

abbrev pub handed : {service : Service} {files : ServiceFiles} → HasAll service files → Handed
handed all = record { registry = all.registry; hooks = all.hooks; codes = all.codes; options = all.given.options }

-- a service has what comes before its socket: its registry and, where it is `start`, its hooks
abbrev pub HasFiles : Service → ServiceFiles → Type 0
HasFiles (Serve given) files = (registry : RegistryRecord) × HoldsRegistry (registry_bytes files) registry
HasFiles (Start given) files = HasAll (Start given) files

-- what `start` prints where it has no socket: nothing, but for a write that failed
abbrev pub IsMute : {W : Type 0} → Service → CommandFault → Output W → Type 0
IsMute (Serve given) fault out = ⊤
IsMute (Start given) fault out = fault ≢ CannotWrite → IsUntouched out

-- a service has its files, and its server does not listen at its address, for this fault
pub record IsDeaf {W : Type 0} (service : Service) (files : ServiceFiles) (out : Output W) (fault : CommandFault) : Type 0 where
  pub ready : HasFiles service files
  pub cause : ListenFault
  pub fault_is : IsOfService service cause fault
  pub mute : IsMute service fault out

-- what the state of a server is to stand in is not had: the file is not opened, or the list in etcd is not had; or memory is refused
-- before
abbrev pub LacksPlace : List ℕ → Place → CommandFault → Type 0
LacksPlace address nowhere fault = ⊥
LacksPlace address (at_file path) fault = (fault ≡ OutOfMemory) ⊎ IsNotOpened address path fault
LacksPlace address (at_list list) fault = FailsList list.prefix fault

-- `start` has all, but for that
pub record LacksState (service : Service) (files : ServiceFiles) (fault : CommandFault) : Type 0 where
  pub all : HasAll service files
  pub refused : LacksPlace (address_of service) (place_of all.given.options) fault

-- `start` has all, and the file in which it is to be told of each request is not opened; or memory is refused before
pub record LacksAudit (service : Service) (files : ServiceFiles) (fault : CommandFault) : Type 0 where
  pub all : HasAll service files
  pub path : List ℕ
  pub named : all.given.options.audit ≡ Some path
  pub refused : IsUnaudited path fault

-- a service has no registry, not all of its hooks, no file to tell of requests, or nothing in which its state is to stand
abbrev pub LacksFile : Service → ServiceFiles → CommandFault → Type 0
LacksFile service files fault =
    HoldsNoRegistry (config_of service) (registry_bytes files) fault ⊎ LacksHook service files fault ⊎ LacksAudit service files fault
    ⊎ LacksState service files fault

-- why a service serves nothing: its registry comes first, then its hooks, then the file in which it is told of each request, and then
-- its socket, and the file or the list of its state. Where it lacks one of the others, it prints nothing.
abbrev pub CannotServe : {W : Type 0} → Service → ServiceFiles → Output W → CommandFault → Type 0
CannotServe service files out fault = (IsUntouched out × LacksFile service files fault) ⊎ IsDeaf service files out fault

-- `start` had all, and its server ended with this fault, on its state where that is to stand
pub record HasEnded {W : Type 0} (starts : Startings) (service : Service) (files : ServiceFiles) (fault : CommandFault) (out : Output W) : Type 0 where
  pub all : HasAll service files
  pub ends : EndsStart starts (place_of all.given.options) (handed all) fault out

-- A service ends with a fault: it serves nothing, and has told nothing, or its server ended.
abbrev pub FailsService : {W E : Type 0} → Startings → Service → ServiceFiles → CommandFault → Outputs W E → Type 0
FailsService starts service files fault to = (IsUntouched to.err × CannotServe service files to.out fault) ⊎ HasEnded starts service files fault to.out

-- so it did, which is told behind the lines of its journal, and the status is that of the fault
pub record TellsEnd {W E : Type 0} (starts : Startings) (service : Service) (files : ServiceFiles) (status : Status) (to : Outputs W E) : Type 0 where
  pub fault : CommandFault
  pub ended : HasEnded starts service files fault to.out
  pub status_is : status ≡ status_of_command_fault fault
  pub behind : E
  pub told : to.err.writes.prints _ behind fault to.err.new

-- A service ends, with what it prints and what it tells: it served, or it is told why it serves nothing, or its server ended.
abbrev pub EndsService : {W E : Type 0} → Startings → Service → ServiceFiles → Status → Outputs W E → Type 0
EndsService starts service files status to =
    ((status ≡ Done) × ServeEnded starts service files to.out) ⊎ TellsFault (CannotServe service files to.out) status to.err ⊎ TellsEnd starts service files status to
