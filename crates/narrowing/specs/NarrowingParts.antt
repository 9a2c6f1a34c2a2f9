-- Beside Narrowing: only the contracts of this crate's own parts and their proofs cite this, no public clause.
use Rattle.std.specs.Prelude.{◌≡◌, ℕ, List, [], Bool, true, false, Result, Ok, Err, max}
use Rattle.batch_file.specs.Frames.{recovered, torn_of}
use Rattle.clients.specs.RegistryRecord.{RegistryRecord}
use Rattle.consent.specs.History.{Event, last_moment}
use Rattle.endpoints.specs.Bounded.{AllRight}
use Rattle.endpoints.specs.Hosts.{HostRun}
use Rattle.hook_host.specs.declared.host.HookHost.{Ghosts as Hosting}
use Rattle.narrowing.specs.Left.{HasNoFormer, Under, ended_count, left_under}
use Rattle.narrowing.specs.Narrowing.{under_in}
use Rattle.state_file.specs.Renewing.{left_numbered}
use Rattle.state_file.specs.Resuming.{OfEachHistory}
use Rattle.state_file.specs.Standing.{AreTold, until_of}
use Rattle.state_file.specs.Telling.{Tell, rules_of}
use Rattle.state_file.specs.declared.fault.StateFault.{StateFault}
use Rattle.state_file.specs.declared.fault.StateFault.TheVariants.{Memory, FormerOwner, ClientNarrowed, LifeNarrowed}

-- whether rules that are not taken are less than those told, by the fault
abbrev pub less_by : StateFault → Result Bool StateFault
less_by Memory = Err Memory
less_by FormerOwner = Ok true
less_by (ClientNarrowed name) = Ok true
less_by LifeNarrowed = Ok true
less_by fault = Ok false

-- what is left of the history is right under the rules, nothing of it is a former owner's, a host came through it, and so many codes and
-- tokens end
pub record Ends {H : Type 0} (hosting : Hosting H) (first : H) (under : Under) (until ended : ℕ) (history : List Event) : Type 0 where
  pub right : AllRight under.rules [] (left_under under history)
  pub owners : HasNoFormer under.owners (left_under under history)
  pub host : H
  pub ran : HostRun hosting first (left_under under history) host
  pub counted : ended ≡ ended_count under history (max (last_moment 0 history) until)

-- so it is of each history that the bytes stand for
abbrev pub EndsOfEach : {H : Type 0} → Hosting H → H → List ℕ → Under → ℕ → Type 0
EndsOfEach hosting first left under ended = OfEachHistory hosting first left (Ends hosting first under (until_of (recovered left)) ended)

-- so it is of all bytes of which these batches were read, and this as what an unfinished write left
abbrev pub EndOfRead : {H : Type 0} → Hosting H → (batches : List (List ℕ)) (torn : List ℕ) → H → Under → ℕ → Type 0
EndOfRead hosting batches torn first under ended =
    (left : List ℕ) → recovered left ≡ batches → torn_of left ≡ torn → EndsOfEach hosting first left under ended

-- the new batches tell the rules, what is left under these of the list that the old ones tell, and the same moment
pub record TellLeft (old : List (List ℕ)) (under : Under) (new : List (List ℕ)) : Type 0 where
  pub facts : List Event
  pub of : AreTold old facts
  pub told : AreTold new (left_numbered (left_under under facts))
  pub rules_are : Tell new (rules_of under.rules)
  pub until_is : until_of new ≡ until_of old

-- so many codes and tokens end, and the new batches tell what is left: of all bytes of which these were read
abbrev pub LeavesOfRead : {H : Type 0} → Hosting H → (batches : List (List ℕ)) (torn : List ℕ) → H → RegistryRecord → List (List ℕ) → ℕ → Type 0
LeavesOfRead hosting batches torn first rules new ended =
    (left : List ℕ) → recovered left ≡ batches → torn_of left ≡ torn →
    EndsOfEach hosting first left (under_in left rules) ended × TellLeft (recovered left) (under_in left rules) new
