use Rattle.std.proofs.Common.{◌≡◌, take}
use Rattle.std.specs.Prelude.{count_by}
use Rattle.shelf.specs.Shelved.{in_slot, lasts_of}
use Rattle.shelf.proofs.shelf.Shelf.count_in_of.Given as goal

abbrev pub invariant-loop-slot : goal.invariant-loop-slot
invariant-loop-slot g l = l.count ≡ count_by (in_slot (lasts_of g.R.Lasts.until g.R.Lasts.whose l.whose l.moment)) (take l.slot l.self.slots.items)
