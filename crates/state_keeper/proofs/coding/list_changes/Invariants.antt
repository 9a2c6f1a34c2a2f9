use Rattle.std.proofs.Common.{◌++◌, ℕ, List, take}
use Rattle.shortening.specs.Steps.{IsListing}
use Rattle.state_keeper.proofs.Names.{Event, dated_facts}
use Rattle.state_keeper.proofs.coding.list_changes.Given as goal

abbrev pub invariant-loop-dated : goal.invariant-loop-dated
invariant-loop-dated l =
    (history events : List Event) (m : ℕ) → IsListing l.initial.listing history m events → IsListing l.listing history m (events ++ dated_facts (take l.dated-index l.changes))
