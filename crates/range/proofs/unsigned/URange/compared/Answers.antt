use Rattle.std.proofs.Common.{true}
use Rattle.range.proofs.Names.{says, IsAnsweredIn}
use Rattle.range.proofs.Refinements.{compared_by}
use Rattle.range.proofs.unsigned.URange.compared.Goals as goal

pub returns-in-Some : goal.returns-in-Some
returns-in-Some c w =
    let means = c.in-Some.ensures in
    compared_by (IsAnsweredIn w c.in-Some.holding true) (IsAnsweredIn w c.args.cond c.args.taken) (says c.in-Some.holding true).words (says c.args.cond c.args.taken).words c.args.a c.args.b c.related.result
    (means.same w) means.words (c.related.ensures w)
