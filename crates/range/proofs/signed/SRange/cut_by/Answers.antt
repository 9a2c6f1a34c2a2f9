use Rattle.range.proofs.Names.{InRange, InSignedRange}
use Rattle.range.proofs.Refinements.{met_by}
use Rattle.range.proofs.signed.SRange.cut_by.Goals as goal

pub returns-clause-kept : goal.returns-clause-kept
returns-clause-kept c = met_by InSignedRange (InRange c.args.words) c.args.self c.of_unsigned.result c.meet.result (λ x h k. c.of_unsigned.ensures x k) c.meet.ensures
