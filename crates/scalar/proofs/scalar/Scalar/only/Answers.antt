use Rattle.std.proofs.Common.{◌∙◌, ap, arith, Some}
use Rattle.range.proofs.Places.{single_ends}
use Rattle.scalar.proofs.scalar.Scalar.only.Goals as goal

pub returns-then-least-greatest-clause-single : goal.returns-then-least-greatest-clause-single
returns-then-least-greatest-clause-single c x one =
    let ends = single_ends c.args.self.unsigned x (omega arith) (omega arith) one.unsigned in
    ap Some (c.least-least.ensures ∙ ends.0)

pub returns-else-least-greatest-clause-single : goal.returns-else-least-greatest-clause-single
returns-else-least-greatest-clause-single c x one =
    let ends = single_ends c.args.self.unsigned x (omega arith) (omega arith) one.unsigned in
    absurd (omega arith)
