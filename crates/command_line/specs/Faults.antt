-- What a fault of a layer below is to a service: want of memory is told alike wherever it comes.
use Rattle.std.specs.Prelude.{◌≡◌, ◌≢◌, ℕ, List}
use Rattle.command_line.specs.Names.{CannotListen, CannotWrite, ClockAhead, NoSeed, NoSocket, OutOfMemory, Stopped, Unaudited, Unopened, ListenFault, LifeEnd, CommandFault, Serve, Start}
use Rattle.disk_file.specs.declared.faults.OpenFault.TheVariants as opening
use Rattle.command_line.specs.declared.service.Service.{Service}
use Rattle.commands.specs.Faults.{IsOfState}
use Rattle.ports.specs.declared.fault.ListenFault.TheVariants as listen
use Rattle.daemon.specs.declared.fault.OpeningFault.{OpeningFault}
use Rattle.daemon.specs.declared.fault.OpeningFault.TheVariants.{Socket, File}
use Rattle.lifetime.specs.declared.life.LifeEnd.TheVariants as ends

-- no socket is had at the address
abbrev pub IsOfListening : List ℕ → ListenFault → CommandFault → Type 0
IsOfListening address listen.NoSeed fault = fault ≡ NoSeed
IsOfListening address (listen.NoSocket why) (CannotListen named told) = (named.now ≡ address) × (told ≡ why)
IsOfListening address (listen.NoSocket why) fault = ⊥
IsOfListening address listen.Unwritten fault = fault ≡ CannotWrite
IsOfListening address listen.Memory fault = fault ≡ OutOfMemory

-- `serve` tells no more of it
abbrev pub IsOfServing : ListenFault → CommandFault → Type 0
IsOfServing listen.NoSeed fault = fault ≡ NoSeed
IsOfServing (listen.NoSocket why) fault = fault ≡ NoSocket
IsOfServing listen.Unwritten fault = fault ≡ CannotWrite
IsOfServing listen.Memory fault = fault ≡ OutOfMemory

-- by the service for which no socket is had
abbrev pub IsOfService : Service → ListenFault → CommandFault → Type 0
IsOfService (Serve given) cause fault = IsOfServing cause fault
IsOfService (Start given) cause fault = IsOfListening given.address.now cause fault

-- or the file at the path is not opened
abbrev pub IsOfOpening : List ℕ → List ℕ → OpeningFault → CommandFault → Type 0
IsOfOpening address path (Socket cause) fault = IsOfListening address cause fault
IsOfOpening address path (File opening.Memory) fault = fault ≡ OutOfMemory
IsOfOpening address path (File cause) (Unopened named told) = (named.now ≡ path) × (told ≡ cause)
IsOfOpening address path (File cause) fault = ⊥

-- the file at the path, in which it is to be told of each request, is not opened, or memory is refused
abbrev pub IsUnaudited : List ℕ → CommandFault → Type 0
IsUnaudited path (Unaudited named cause) = (named.now ≡ path) × (cause ≢ opening.Memory)
IsUnaudited path fault = fault ≡ OutOfMemory

-- so it is for some cause
abbrev pub IsNotOpened : List ℕ → List ℕ → CommandFault → Type 0
IsNotOpened address path fault = (cause : OpeningFault) × IsOfOpening address path cause fault

-- how a life ended, on the file at the path
abbrev pub IsOfEnd : List ℕ → LifeEnd → CommandFault → Type 0
IsOfEnd path (ends.Refused cause) fault = IsOfState path cause fault
IsOfEnd path (ends.ClockAhead seconds) (ClockAhead named told) = (named.now ≡ path) × (told ≡ seconds)
IsOfEnd path (ends.ClockAhead seconds) fault = ⊥
IsOfEnd path ends.Unopened fault = fault ≡ CannotWrite
IsOfEnd path (ends.Stopped cause why) fault = fault ≡ Stopped cause why
