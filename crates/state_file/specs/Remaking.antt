-- A server that is made of the list that batches tell. Only the contracts of this crate's own parts and their proofs cite this.
use Rattle.std.specs.Prelude.{◌≡◌, ◌++◌, ◌∷◌, [], ℕ, List, max}
use Rattle.consent.specs.Changes.{change_of}
use Rattle.consent.specs.History.{last_moment}
use Rattle.consent.specs.declared.change.Change.{Change}
use Rattle.endpoints.specs.Bounded.{AllRight}
use Rattle.endpoints.specs.Remaking.{FitsRemaking, TellsHistory}
use Rattle.endpoints.specs.declared.redo.RedoFault.{RedoFault}
use Rattle.state_file.specs.Names.{Event, HostRun, Hosting, Outset, StateFault, Spelling, Follows}
use Rattle.state_file.specs.Hooks.{hooks_set_in}
use Rattle.state_file.specs.Listing.{TellNone}
use Rattle.state_file.specs.Resuming.{FitsRestored, RefusesToRedo}
use Rattle.state_file.specs.Standing.{AreTold}
use Rattle.state_file.specs.declared.fault.StateFault.TheVariants.{Memory}
use Rattle.state_file.specs.declared.remade.Remade.{Remade}
use Rattle.state_file.specs.declared.restored.Restored.{Restored}

-- it is made of the list, and its hooks are those that the list sets
abbrev pub FitsRemade : {H : Type 0} → Hosting H → Remade H → Outset H → List Event → ℕ → Type 0
FitsRemade hosting remade outset list m =
    FitsRemaking hosting remade.server outset list m × (remade.hooks ≡ hooks_set_in list)

-- whatever list the old one was made of, the new one is made of that and these
abbrev pub MakesAgain : {H : Type 0} → Hosting H → Remade H → List Event → Remade H → Type 0
MakesAgain {H = H} hosting old facts new =
    (outset : Outset H) (list : List Event) (m : ℕ) → FitsRemade hosting old outset list m →
    FitsRemade hosting new outset (list ++ facts) (last_moment m facts)

-- so it is of those that the batches tell
abbrev pub TellsAgain : {H : Type 0} → Hosting H → Remade H → List (List ℕ) → Remade H → Type 0
TellsAgain hosting old batches new = (facts : List Event) × AreTold batches facts × MakesAgain hosting old facts new

-- one of them is refused, once those before it are made again
abbrev pub RefusesAgain : {H : Type 0} → Hosting H → Remade H → List Event → RedoFault → Type 0
RefusesAgain {H = H} hosting old facts fault =
    (before behind : List Event) × (e : Event) × (facts ≡ before ++ e ∷ behind) × (mid : Remade H) × MakesAgain hosting old before mid
    × (change : Change) × (change_of change ≡ e.change) × RefusesToRedo hosting mid.server e.moment change fault

-- why the changes of a batch are not made again
abbrev pub RefusesOne : {H : Type 0} → Hosting H → Remade H → List ℕ → StateFault → Type 0
RefusesOne hosting old batch Memory = Unit {0}
RefusesOne hosting old batch (Spelling fault) = TellNone (batch ∷ [])
RefusesOne hosting old batch (Follows fault) = (facts : List Event) × AreTold (batch ∷ []) facts × RefusesAgain hosting old facts fault
RefusesOne hosting old batch _ = ⊥

-- and why those of batches are not
abbrev pub RefusesBatches : {H : Type 0} → Hosting H → Remade H → List (List ℕ) → StateFault → Type 0
RefusesBatches hosting old batches Memory = Unit {0}
RefusesBatches hosting old batches (Spelling fault) = TellNone batches
RefusesBatches hosting old batches (Follows fault) =
    (front later : List (List ℕ)) × (facts : List Event) × (batches ≡ front ++ later) × AreTold front facts × RefusesAgain hosting old facts fault
RefusesBatches hosting old batches _ = ⊥

-- Whatever list it was made of: from its moment or a later one on the server fits each right history that the list tells, where
-- that leads to the host, and its hooks are that history's.
abbrev pub FinishesAs : {H : Type 0} → Hosting H → Remade H → ℕ → Restored H → Type 0
FinishesAs {H = H} hosting old until new =
    (outset : Outset H) (list : List Event) (m : ℕ) → FitsRemade hosting old outset list m →
    (history : List Event) → TellsHistory list (max m until) history → HostRun hosting outset.first history old.server.host →
    AllRight outset.rules [] history → FitsRestored hosting new outset history × (new.moment ≡ max m until)
