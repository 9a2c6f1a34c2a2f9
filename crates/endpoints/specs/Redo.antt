-- What becomes of a change that is made again as the next one of a list.
use Rattle.std.specs.Prelude.{◌≡◌, ◌<◌, ℕ, List, Bool, Option, Some, None, option_map, if◌then◌else◌}
use Rattle.endpoints.specs.Names.{change_of, Event, with_change, Hosting, RegistryRecord, RedoFault, MomentBack, Hook}
use Rattle.consent.specs.declared.change.Change.{Change}
use Rattle.consent.specs.declared.change.Change.TheVariants.{HookSet, HookGone}
use Rattle.token_store.specs.Lists.{standing_refusal}
use Rattle.endpoints.specs.Bounded.{IsRightChange}
use Rattle.endpoints.specs.Faults.{of_again_fault}
use Rattle.endpoints.specs.Layouts.{layout_of}
use Rattle.endpoints.specs.Remaking.{SeenRemaking, FitsRemaking}
use Rattle.endpoints.specs.Right.{is_right}
use Rattle.endpoints.specs.Server.{Outset}
use Rattle.endpoints.specs.declared.redo.RedoFault.TheVariants.{NotRight, Memory}

-- whatever list it was made of, it is then made of the list with the change, which is of the last moment
abbrev pub RedoesChange : {H : Type 0} → Hosting H → SeenRemaking H → ℕ → Change → SeenRemaking H → Type 0
RedoesChange {H = H} hosting old moment change new =
    (outset : Outset H) (list : List Event) (m : ℕ) → FitsRemaking hosting old outset list m →
    FitsRemaking hosting new outset (with_change list moment (change_of change)) moment

-- WHY IT IS NOT MADE

-- it is not right, unless something is wanting
abbrev pub or_not_right : Bool → Option RedoFault → Option RedoFault
or_not_right right (Some fault) = Some fault
or_not_right right None = if right then None else Some NotRight

-- why the list does not go on with the change at the moment, under the rules
abbrev pub list_refusal : RegistryRecord → List Event → ℕ → Change → Option RedoFault
list_refusal rules list moment change = or_not_right (is_right rules list change) (option_map of_again_fault (standing_refusal list moment change))

-- why the host does not make its change
abbrev pub RefusesHookChange : {H : Type 0} → Hosting H → H → Change → RedoFault → Type 0
RefusesHookChange hosting host (HookSet name version code) (Hook fault) = hosting.refuses_install host name.now (layout_of version) code.now fault
RefusesHookChange hosting host (HookGone name) (Hook fault) = hosting.refuses_remove host name.now fault
RefusesHookChange hosting host _ Memory = Unit {0}
RefusesHookChange hosting host _ _ = ⊥

-- Why the change is not made: its moment is before the last one, or no list of which it is made goes on with it, or the host
-- has a fault, or memory was refused.
abbrev pub RefusesRedo : {H : Type 0} → Hosting H → SeenRemaking H → ℕ → Change → RedoFault → Type 0
RefusesRedo hosting making moment change MomentBack = moment < making.greatest
RefusesRedo hosting making moment change Memory = Unit {0}
RefusesRedo hosting making moment change (Hook fault) = RefusesHookChange hosting making.host change (Hook fault)
RefusesRedo {H = H} hosting making moment change fault =
    (outset : Outset H) (list : List Event) (m : ℕ) → FitsRemaking hosting making outset list m →
    list_refusal outset.rules list moment change ≡ Some fault

-- the change is right in no list of which it is made
abbrev pub IsNowhereRight : {H : Type 0} → Hosting H → SeenRemaking H → Change → Type 0
IsNowhereRight {H = H} hosting making change =
    (outset : Outset H) (list : List Event) (m : ℕ) → FitsRemaking hosting making outset list m →
    IsRightChange outset.rules list (change_of change) → ⊥
