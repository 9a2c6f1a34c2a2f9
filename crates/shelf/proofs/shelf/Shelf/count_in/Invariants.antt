use Rattle.std.proofs.Common.{◌≡◌, take}
use Rattle.std.specs.Prelude.{count_by}
use Rattle.shelf.specs.Shelved.{in_slot, lasts}
use Rattle.shelf.proofs.shelf.Shelf.count_in.Given as goal

abbrev pub invariant-loop-slot : goal.invariant-loop-slot
invariant-loop-slot g l = l.count ≡ count_by (in_slot (lasts g.R.Lasts.until l.moment)) (take l.slot l.self.slots.items)
