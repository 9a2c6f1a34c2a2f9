-- What a server does that is started on a state file.
use Rattle.std.specs.Prelude.{◌≡◌, ◌≢◌, ◌⊎◌, ◌++◌, ℕ, List, [], ◌∷◌, None, Some, string_bytes}
use Rattle.state_file.specs.Names.{RefusesFile, recovered, RegistryRecord, Event, HostRun, SeenServer, Outset, FitsServer, Notes, AreNoted, layout_of, Hosting, HookFact, StateFault, NotState, Version}
use Rattle.state_file.specs.Names.{Damaged, Spelling, Follows, HookDiffers, Hook}
use Rattle.batch_file.specs.declared.framing.ReadFault.TheVariants as reading
use Rattle.consent.specs.Changes.{change_of}
use Rattle.consent.specs.History.{last_moment}
use Rattle.consent.specs.declared.change.Change.{Change}
use Rattle.endpoints.specs.Bounded.{AllRight}
use Rattle.endpoints.specs.Redo.{IsNowhereRight, RefusesRedo}
use Rattle.endpoints.specs.Remaking.{FitsRemaking, SeenRemaking}
use Rattle.endpoints.specs.declared.redo.RedoFault.{RedoFault}
use Rattle.endpoints.specs.declared.redo.RedoFault.TheVariants.{NotRight}
use Rattle.state_file.specs.Comparing.{RefuseRules, TakesRules}
use Rattle.state_file.specs.Hooks.{AreSet, hooks_set_in, hook_named, with_hooks}
use Rattle.state_file.specs.Listing.{TellNone}
use Rattle.state_file.specs.Standing.{AreTold, StandFor, StandsFor}
use Rattle.state_file.specs.Telling.{TellsRules, rules_of}
use Rattle.state_file.specs.declared.fault.StateFault.TheVariants.{Memory}
use Rattle.state_file.specs.declared.restored.Restored.{Restored}

-- A SERVER MADE OF A LIST

-- the server fits the history from its moment on, and its hooks are that history's
abbrev pub FitsRestored : {H : Type 0} → Hosting H → Restored H → Outset H → List Event → Type 0
FitsRestored hosting restored outset history =
    FitsServer hosting restored.server outset history restored.moment
    × (restored.hooks ≡ hooks_set_in history)

-- The history is right under the rules. It is asked for where it is not the list itself that the bytes tell: of changes that are
-- made again the server sees to it.
abbrev pub IsRight : RegistryRecord → List ℕ → List Event → Type 0
IsRight rules left history = AreTold (recovered left) history ⊎ AllRight rules [] history

-- the first host comes by the history to what it comes to by the list that the bytes tell
abbrev pub Replays : {H : Type 0} → Hosting H → H → List ℕ → List Event → Type 0
Replays {H = H} hosting first left history =
    (facts : List Event) (host : H) → AreTold (recovered left) facts → HostRun hosting first facts host → HostRun hosting first history host

-- the host came by the history to its hooks: it is asked for where that is not the list itself
abbrev pub WasRun : {H : Type 0} → Hosting H → H → List ℕ → List Event → Type 0
WasRun hosting first left history = AreTold (recovered left) history ⊎ Replays hosting first left history

-- so it is of each history that the bytes stand for, that is right under the rules and that was run
abbrev pub OfRight : {H : Type 0} → Hosting H → List ℕ → Outset H → (List Event → Type 0) → Type 0
OfRight hosting left outset claim =
    (history : List Event) → StandsFor left history → IsRight outset.rules left history → WasRun hosting outset.first left history → claim history

-- it fits each of them
abbrev pub AnswersFor : {H : Type 0} → Hosting H → List ℕ → Outset H → Restored H → Type 0
AnswersFor hosting left outset restored = OfRight hosting left outset (λ history. FitsRestored hosting restored outset history)

-- so it is of bytes that stand for these batches
abbrev pub AnswersForBatches : {H : Type 0} → Hosting H → List (List ℕ) → Outset H → Restored H → Type 0
AnswersForBatches hosting batches outset restored = (left : List ℕ) → recovered left ≡ batches → AnswersFor hosting left outset restored

-- the batches stand for the list that they tell, which is right under the rules
abbrev pub ListsItself : RegistryRecord → List (List ℕ) → Type 0
ListsItself rules batches = (facts : List Event) × AreTold batches facts × StandFor batches facts × AllRight rules [] facts

-- WHY NONE IS MADE

-- the change is not made again; where it is not right, it is right behind no list of which the server in the making is made
abbrev pub RefusesToRedo : {H : Type 0} → Hosting H → SeenRemaking H → ℕ → Change → RedoFault → Type 0
RefusesToRedo hosting making moment change fault =
    RefusesRedo hosting making moment change fault × (fault ≡ NotRight → IsNowhereRight hosting making change)

-- the event is refused as the next one behind a list
abbrev pub RefusesNext : {H : Type 0} → Hosting H → Outset H → List Event → Event → RedoFault → Type 0
RefusesNext {H = H} hosting outset before e fault =
    (making : SeenRemaking H) × FitsRemaking hosting making outset before (last_moment 0 before)
    × (change : Change) × (change_of change ≡ e.change) × RefusesToRedo hosting making e.moment change fault

-- one of the changes that the batches tell is refused behind those before it
abbrev pub RefusesChange : {H : Type 0} → Hosting H → Outset H → List (List ℕ) → RedoFault → Type 0
RefusesChange hosting outset batches fault =
    (front later : List (List ℕ)) × (before behind : List Event) × (e : Event) × (batches ≡ front ++ later)
    × AreTold front (before ++ e ∷ behind) × RefusesNext hosting outset before e fault

-- why no server is made of the changes of the batches
abbrev pub RefusesList : {H : Type 0} → Hosting H → Outset H → List (List ℕ) → StateFault → Type 0
RefusesList hosting outset batches Memory = Unit {0}
RefusesList hosting outset batches (Spelling fault) = TellNone batches
RefusesList hosting outset batches (Follows fault) = RefusesChange hosting outset batches fault
RefusesList hosting outset batches _ = ⊥

-- Why no server is made of the batches: for their rules, or else, where the rules are taken, for their changes.
abbrev pub RefuseServer : {H : Type 0} → Hosting H → Outset H → List (List ℕ) → StateFault → Type 0
RefuseServer hosting outset batches fault =
    RefuseRules batches (rules_of outset.rules) fault ⊎ (TakesRules batches (rules_of outset.rules) × RefusesList hosting outset batches fault)

-- why none is made of the bytes: they are no file of batches, or these are refused
abbrev pub RefusesResume : {H : Type 0} → Hosting H → Outset H → List ℕ → StateFault → Type 0
RefusesResume hosting outset left NotState = RefusesFile left reading.NotState
RefusesResume hosting outset left (Version version) = RefusesFile left (reading.Version version)
RefusesResume hosting outset left (Damaged number) = RefusesFile left (reading.Damaged number)
RefusesResume hosting outset left fault = RefuseServer hosting outset (recovered left) fault

-- HOOKS

-- Whatever history the old one fits: the new one fits it with the hooks, set at its moment, where each of them is set, and
-- has noted that.
abbrev pub Sets : {H : Type 0} → Hosting H → Restored H → List HookFact → Restored H → Type 0
Sets {H = H} hosting old hooks new =
    (outset : Outset H) (history : List Event) → FitsRestored hosting old outset history →
    FitsRestored hosting new outset (with_hooks old.moment history hooks) × AreSet hooks (with_hooks old.moment history hooks)
    × AreNoted old.server new.server history (with_hooks old.moment history hooks)

-- why the hook is not set: another of its name is, or the host refuses it
abbrev pub RefusesSetting : {H : Type 0} → Hosting H → Restored H → HookFact → StateFault → Type 0
RefusesSetting hosting restored hook Memory = Unit {0}
RefusesSetting hosting restored hook (HookDiffers name) =
    (string_bytes name ≡ hook.name) × (other : HookFact) × (hook_named hook.name restored.hooks ≡ Some other) × (other ≢ hook)
RefusesSetting hosting restored hook (Hook name fault) =
    (string_bytes name ≡ hook.name) × (hook_named hook.name restored.hooks ≡ None)
    × hosting.refuses_install restored.server.host hook.name (layout_of hook.version) hook.code fault
RefusesSetting hosting restored hook _ = ⊥

-- one of the hooks is not set, once those before it are
abbrev pub RefusesSettings : {H : Type 0} → Hosting H → Restored H → List HookFact → StateFault → Type 0
RefusesSettings {H = H} hosting old hooks fault =
    (before later : List HookFact) × (hook : HookFact) × (mid : Restored H) × (hooks ≡ before ++ hook ∷ later)
    × Sets hosting old before mid × RefusesSetting hosting mid hook fault

-- so it is of some server of these
abbrev pub RefusesSome : {H : Type 0} → Hosting H → (Restored H → Type 0) → List HookFact → StateFault → Type 0
RefusesSome {H = H} hosting These hooks fault = (restored : Restored H) × These restored × RefusesSettings hosting restored hooks fault

-- A START

-- The history is right under rules that the bytes tell. It is asked for where it is not the list itself that they tell.
abbrev pub WasRight : List ℕ → List Event → Type 0
WasRight left history =
    AreTold (recovered left) history ⊎ ((old : RegistryRecord) × TellsRules left (rules_of old) × AllRight old [] history)

-- so it is of each history that the bytes stand for, that was right and that was run
abbrev pub OfEachHistory : {H : Type 0} → Hosting H → H → List ℕ → (List Event → Type 0) → Type 0
OfEachHistory hosting first left claim =
    (history : List Event) → StandsFor left history → WasRight left history → WasRun hosting first left history → claim history

-- from the moment on the server answers as the history says, and it notes what happens from there on
pub record ServesOn {H : Type 0} (hosting : Hosting H) (server : SeenServer H) (outset : Outset H) (moment : ℕ) (history : List Event) : Type 0 where
  pub fits : FitsServer hosting server outset history moment
  pub notes : Notes server (Some history) history
