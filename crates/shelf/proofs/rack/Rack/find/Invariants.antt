use Rattle.std.specs.Prelude.{nat_eq}
use Rattle.std.proofs.Common.{◌%◌, length}
use Rattle.chains.specs.Chained.{to_go}
use Rattle.shelf.specs.Racked.{number_place}
use Rattle.shelf.proofs.Naming.{IsPassed}
use Rattle.shelf.proofs.rack.Rack.find.Given as goal

abbrev pub invariant-loop-at : goal.invariant-loop-at
invariant-loop-at g l = IsPassed l.self.names l.self.slots.items (λ x o. number_place l.self.lists (length l.self.slots.items) x o) nat_eq (l.number % l.self.lists) l.number l.at

abbrev pub decreases-loop-at : goal.decreases-loop-at
decreases-loop-at g l = to_go l.self.names l.at
