use Rattle.std.proofs.Common.{◌++◌, List, take}
use Rattle.shortening.specs.Steps.{TellsLast}
use Rattle.state_keeper.proofs.Names.{Event, dated_facts}
use Rattle.state_keeper.proofs.counting.tell_last.Given as goal

abbrev pub invariant-loop-dated : goal.invariant-loop-dated
invariant-loop-dated l = (events : List Event) → TellsLast l.initial.last events → TellsLast l.last (events ++ dated_facts (take l.dated-index l.changes))
