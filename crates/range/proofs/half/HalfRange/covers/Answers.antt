use Rattle.range.proofs.Names.{W32, signed_place}
use Rattle.range.proofs.half.HalfRange.covers.Goals as goal

pub returns-clause-members : goal.returns-clause-members
returns-clause-members c all = rw (c.places.ensures.is, c.places-2.ensures.is) at (c.covers.ensures.members all (signed_place W32))
