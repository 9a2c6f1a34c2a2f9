-- When a state file is narrowed to a registry, and what it stands for then.
use Rattle.std.specs.Prelude.{◌≡◌, ◌⊎◌, ℕ, List, Option, None, Some, max}
use Rattle.batch_file.specs.Frames.{RefusesFile, recovered}
use Rattle.batch_file.specs.declared.framing.ReadFault.TheVariants as reading
use Rattle.clients.specs.RegistryRecord.{RegistryRecord}
use Rattle.consent.specs.History.{Event, last_moment}
use Rattle.endpoints.specs.Hosts.{HostRun}
use Rattle.hook_host.specs.declared.host.HookHost.{Ghosts as Hosting}
use Rattle.change_codec.specs.Rules.{RulesFact}
use Rattle.narrowing.specs.Left.{HasNoFormer, Under, ended_count, left_under, under_told}
use Rattle.shortening.specs.Standing.{IsLeftOf}
use Rattle.state_file.specs.Comparing.{AreAsWide, IsUntold, KeepClients}
use Rattle.state_file.specs.Renewing.{left_numbered}
use Rattle.state_file.specs.Resuming.{OfEachHistory, WasRight}
use Rattle.state_file.specs.Standing.{AreTold, StandsFor, until_of}
use Rattle.state_file.specs.Telling.{Tell, rules_told}
use Rattle.state_file.specs.declared.fault.StateFault.{StateFault}
use Rattle.state_file.specs.declared.fault.StateFault.TheVariants.{Memory, NotState, Version, Damaged, Full, TooLong, NoRules, Spelling, Follows}
use Rattle.narrowing.specs.declared.narrowed.Narrowed.{Narrowed}

-- the rules keep the names of those told, and are not as wide
abbrev pub AreLess : RulesFact → RulesFact → Type 0
AreLess told now = KeepClients told now × (¬ AreAsWide told now)

-- so they are beside the rules that the batches tell
pub record AreNarrower (batches : List (List ℕ)) (now : RulesFact) : Type 0 where
  pub told : RulesFact
  pub tells : Tell batches told
  pub less : AreLess told now

-- the registry, by the rules that the bytes tell
abbrev pub under_in : List ℕ → RegistryRecord → Under
under_in left rules = under_told (rules_told (recovered left)) rules

-- so it is of the batches that the bytes stand for
abbrev pub IsNarrower : List ℕ → RulesFact → Type 0
IsNarrower left now = AreNarrower (recovered left) now

-- the bytes stand for a history that is right under rules that they tell, and a host came through it
pub record GoesOn {H : Type 0} (hosting : Hosting H) (first : H) (left : List ℕ) (history : List Event) : Type 0 where
  pub stands : StandsFor left history
  pub right : WasRight left history
  pub host : H
  pub ran : HostRun hosting first history host

-- A file with the batches stands for what is left of the history, and nothing of that is a former owner's. It tells no more than what is left,
-- under the rules, of a list that is left of the history, and the greatest number of a family. So many codes and tokens ended as the history
-- had good ones of which nothing is left, at the moment of its last change or a later one that the file tells.
pub record HasLeft {H : Type 0} (hosting : Hosting H) (first : H) (under : Under) (file : Narrowed) (history : List Event) : Type 0 where
  pub goes_on : (bytes : List ℕ) → recovered bytes ≡ file.frames → GoesOn hosting first bytes (left_under under history)
  pub owners : HasNoFormer under.owners (left_under under history)
  pub list : List Event
  pub of : IsLeftOf list history (last_moment 0 history)
  pub told : AreTold file.frames (left_numbered (left_under under list))
  pub ended : file.ended ≡ ended_count under history (max (last_moment 0 history) (until_of file.frames))

-- so it is of each history that the bytes stood for
abbrev pub HasLeftOfEach : {H : Type 0} → Hosting H → H → List ℕ → RegistryRecord → Narrowed → Type 0
HasLeftOfEach hosting first left rules file = OfEachHistory hosting first left (HasLeft hosting first (under_in left rules) file)

-- the history, or what is left of it where the file was narrowed
abbrev pub history_under : Under → Option Narrowed → List Event → List Event
history_under under None history = history
history_under under (Some narrowed) history = left_under under history

-- why the bytes are not read as a state file
abbrev pub IsUnreadable : List ℕ → StateFault → Type 0
IsUnreadable left NotState = RefusesFile left reading.NotState
IsUnreadable left (Version version) = RefusesFile left (reading.Version version)
IsUnreadable left (Damaged number) = RefusesFile left (reading.Damaged number)
IsUnreadable left _ = ⊥

-- Why a file is not narrowed, though the registry is narrower: memory was refused, what is left or the registry's rules are too long
-- to be told, or a batch is at fault.
abbrev pub RefusesNarrowing : StateFault → Type 0
RefusesNarrowing Memory = Unit {0}
RefusesNarrowing Full = Unit {0}
RefusesNarrowing TooLong = Unit {0}
RefusesNarrowing NoRules = Unit {0}
RefusesNarrowing (Spelling fault) = Unit {0}
RefusesNarrowing (Follows fault) = Unit {0}
RefusesNarrowing _ = ⊥

-- why it is not known whether the rules are narrower, or why it is not narrowed, though they are
abbrev pub IsUnnarrowed : List ℕ → RulesFact → StateFault → Type 0
IsUnnarrowed left now fault = IsUnreadable left fault ⊎ (IsUntold now fault ⊎ (IsNarrower left now × RefusesNarrowing fault))
