use Rattle.range.proofs.Names.{W64, signed_place}
use Rattle.range.proofs.signed.SRange.meet.Goals as goal

pub returns-in_err-meet : goal.returns-in_err-meet
returns-in_err-meet c = rw c.from_residual.ensures (c.in_err-meet.ensures (signed_place W64))
