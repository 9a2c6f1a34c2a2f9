use Rattle.std.proofs.Common.{◌≡◌, ◌≤◌}
use Rattle.std.specs.HashMap.{spare}
use Rattle.shelf.specs.Shelved.{slot_room, to_sort, IsShelved}
use Rattle.shelf.proofs.shelf.Shelf.settle.Given as goal

abbrev pub invariant-loop : goal.invariant-loop
invariant-loop g l = record {
  shelved : IsShelved g.R.Lasts.until g.R.Lasts.whose l.self;
  slots : l.self.slots ≡ l.fn.self.slots;
  second : l.self.second ≡ l.fn.self.second;
  room : slot_room l.self ≡ slot_room l.fn.self;
  less : to_sort l.self ≤ to_sort l.fn.self;
  spare : spare l.self.tally.of ≡ spare l.fn.self.tally.of;
}

abbrev pub decreases-loop : goal.decreases-loop
decreases-loop g l = to_sort l.self
