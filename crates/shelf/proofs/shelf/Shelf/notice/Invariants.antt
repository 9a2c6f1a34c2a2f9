use Rattle.std.proofs.Common.{◌≡◌, ◌+◌, ◌-◌}
use Rattle.shelf.specs.Shelved.{room, IsSettled}
use Rattle.shelf.proofs.shelf.Shelf.notice.Given as goal

abbrev pub invariant-loop-self : goal.invariant-loop-self
invariant-loop-self g l = record {
  settled : IsSettled g.R.Lasts.until g.R.Lasts.whose l.self;
  slots : l.self.slots ≡ l.fn.self.slots;
  room : room l.self ≡ room l.fn.self;
}

abbrev pub decreases-loop-self : goal.decreases-loop-self
decreases-loop-self g l = l.moment + 1 - l.self.second
