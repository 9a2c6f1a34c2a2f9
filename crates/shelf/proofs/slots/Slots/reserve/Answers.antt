use Rattle.std.proofs.Common.{ap}
use Rattle.shelf.proofs.slots.Slots.reserve.Goals as goal

pub invariant_of-self : goal.invariant_of-self
invariant_of-self g c = rw c.reserve.ensures.items c.self.invariant

pub invariant_of-self-2 : goal.invariant_of-self-2
invariant_of-self-2 g c = rw (c.reserve-2.ensures.items, c.reserve.ensures.items) c.self.invariant

pub returns-in_err-reserve-clause-same : goal.returns-in_err-reserve-clause-same
returns-in_err-reserve-clause-same g c = rw c.reserve.ensures.items (ap (λ r. r.items) c.self.view_is)

pub returns-clause-same : goal.returns-clause-same
returns-clause-same g c = rw (c.reserve-2.ensures.items, c.reserve.ensures.items) (ap (λ r. r.items) c.self.view_is)
