use Rattle.std.proofs.Common.{refl}
use Rattle.shelf.proofs.slots.Slots.new.Goals as goal

pub invariant_of-result : goal.invariant_of-result
invariant_of-result g c = rw (c.in_ok-full.ensures.items, c.in_ok-cells.ensures.items) refl

pub returns : goal.returns
returns g c = rw c.in_ok-full.ensures.items refl
