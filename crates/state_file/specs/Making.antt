-- What a server is started with on the bytes of a state file, before anything is written.
use Rattle.std.specs.Prelude.{◌≡◌, ◌≤◌, ◌⊎◌, ◌^◌, ℕ, List, [], length, Some, unwrap_or}
use Rattle.state_file.specs.Names.{recovered, torn_of, batch_spelling, Event, Outset, SeenServer, Hosting, HookFact, StateFault}
use Rattle.state_file.specs.Hooks.{AreSet, with_hooks}
use Rattle.state_file.specs.Resuming.{AnswersFor, ListsItself, OfEachHistory, RefusesResume, RefusesSome, ServesOn, Sets}
use Rattle.state_file.specs.Standing.{IsMomentTold, StandFor, until_of}
use Rattle.state_file.specs.Telling.{Tell, rules_of}
use Rattle.state_file.specs.declared.restored.Restored.{Restored}
use Rattle.state_file.specs.declared.fault.StateFault.TheVariants as state

-- what a server is started on: what stands in a file, the registry with a host, and the hooks that it is to have
pub record OnBytes (H : Type 0) : Type 0 where
  pub bytes : List ℕ
  pub outset : Outset H
  pub hooks : List HookFact

abbrev pub on_bytes : {H : Type 0} → List ℕ → Outset H → List HookFact → OnBytes H
on_bytes bytes outset hooks = record { bytes = bytes; outset = outset; hooks = hooks }

-- the history goes on with those of the hooks that it lacks, set at the moment from which the server goes on
abbrev pub going_on : {H : Type 0} → OnBytes H → ℕ → List Event → List Event
going_on on moment history = with_hooks moment history on.hooks

-- what is made: a server, the batches that were read, those of a new file, the moment from which it goes on, and what an unfinished
-- write left
pub record Made (H : Type 0) : Type 0 where
  pub server : SeenServer H
  pub front : List (List ℕ)
  pub batches : List (List ℕ)
  pub moment : ℕ
  pub torn : List ℕ

-- The history goes on with the hooks: from there the server serves, all of them are set, and the batches stand for it.
pub record MakesFrom {H : Type 0} (hosting : Hosting H) (on : OnBytes H) (made : Made H) (history : List Event) : Type 0 where
  pub serves : ServesOn hosting made.server on.outset made.moment (going_on on made.moment history)
  pub set : AreSet on.hooks (going_on on made.moment history)
  pub stands : StandFor made.batches (going_on on made.moment history)

-- So it is of each history that the bytes stand for, and the list that they tell is one that is right. The batches tell the rules, and no other moment than the bytes did; the
-- server goes on from none that is earlier than that, and from no other than they told.
pub record Makes {H : Type 0} (hosting : Hosting H) (on : OnBytes H) (made : Made H) : Type 0 where
  pub each : OfEachHistory hosting on.outset.first on.bytes (MakesFrom hosting on made)
  pub listed : ListsItself on.outset.rules (recovered on.bytes)
  pub tell : Tell made.batches (rules_of on.outset.rules)
  pub front_is : made.front ≡ recovered on.bytes
  pub kept : until_of (recovered on.bytes) ≤ until_of made.batches
  pub no_later : until_of made.batches ≤ until_of (recovered on.bytes)
  pub later : until_of (recovered on.bytes) ≤ made.moment
  pub moment_is : IsMomentTold (recovered on.bytes) made.moment
  pub torn_is : made.torn ≡ torn_of on.bytes

-- The hooks are too long to be told: they are set on a server that is made of the bytes, and what it notes then takes 2^32 bytes
-- or more.
pub record AreTooLong {H : Type 0} (hosting : Hosting H) (on : OnBytes H) : Type 0 where
  pub old : Restored H
  pub answers : AnswersFor hosting on.bytes on.outset old
  pub nothing : old.server.unkept ≡ Some []
  pub new : Restored H
  pub set : Sets hosting old on.hooks new
  pub long : 2 ^ 32 ≤ length (batch_spelling (unwrap_or new.server.unkept []))

-- why nothing is made: for the file, or for a hook, once a server was made of the file; or the hooks are too long to be told
abbrev pub RefusesMaking : {H : Type 0} → Hosting H → OnBytes H → StateFault → Type 0
RefusesMaking hosting on fault =
    RefusesResume hosting on.outset on.bytes fault ⊎ RefusesSome hosting (AnswersFor hosting on.bytes on.outset) on.hooks fault
    ⊎ ((fault ≡ state.Full) × AreTooLong hosting on)

-- WHERE IT IS REFUSED

-- memory was refused, or the disk failed: then the bytes may not be all
abbrev pub StopsReading : StateFault → Type 0
StopsReading state.Memory = Unit {0}
StopsReading (state.Device reason) = Unit {0}
StopsReading _ = ⊥

-- or it is no file of batches that is read
abbrev pub IsOfFile : StateFault → Type 0
IsOfFile state.NotState = Unit {0}
IsOfFile (state.Version version) = Unit {0}
IsOfFile (state.Damaged number) = Unit {0}
IsOfFile fault = StopsReading fault

-- the registry's rules are not taken: it is given back
abbrev pub GivesBack : StateFault → Type 0
GivesBack state.NoRules = Unit {0}
GivesBack (state.ScopeMoved name) = Unit {0}
GivesBack (state.OwnerMoved number) = Unit {0}
GivesBack (state.ClientMoved name) = Unit {0}
GivesBack state.FormerOwner = Unit {0}
GivesBack (state.ClientNarrowed name) = Unit {0}
GivesBack state.LifeNarrowed = Unit {0}
GivesBack _ = ⊥

-- a hook is refused, once the rules are taken
abbrev pub IsOfHooks : StateFault → Type 0
IsOfHooks (state.HookDiffers name) = Unit {0}
IsOfHooks (state.Hook name fault) = Unit {0}
IsOfHooks state.Full = Unit {0}
IsOfHooks _ = ⊥
