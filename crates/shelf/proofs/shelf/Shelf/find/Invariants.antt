use Rattle.chains.specs.Chained.{to_go}
use Rattle.shelf.proofs.Naming.{IsPassedOn}
use Rattle.shelf.proofs.shelf.Shelf.find.Given as goal

abbrev pub invariant-loop-at : goal.invariant-loop-at
invariant-loop-at g l = IsPassedOn l.self l.digest l.at

abbrev pub decreases-loop-at : goal.decreases-loop-at
decreases-loop-at g l = to_go l.self.names l.at
