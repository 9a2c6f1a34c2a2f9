use Rattle.range.proofs.Names.{W64, signed_place}
use Rattle.range.proofs.signed.SRange.covers.Goals as goal

pub returns-clause-members : goal.returns-clause-members
returns-clause-members c all = c.covers.ensures.members all (signed_place W64)
