use Rattle.std.proofs.Common.{◌≡◌, ◌≤◌}
use Rattle.shelf.specs.Shelved.{due_left, pending_left, room, IsShelved}
use Rattle.shelf.proofs.shelf.Shelf.first_due.Given as goal

abbrev pub invariant-loop-slot : goal.invariant-loop-slot
invariant-loop-slot g l = record {
  shelved : IsShelved g.R.Lasts.until g.R.Lasts.whose l.self;
  slots : l.self.slots ≡ l.fn.self.slots;
  second : l.self.second ≡ l.fn.self.second;
  pending : pending_left l.self ≤ pending_left l.fn.self;
  room : room l.self ≡ room l.fn.self;
}

abbrev pub decreases-loop-slot : goal.decreases-loop-slot
decreases-loop-slot g l = due_left l.self
