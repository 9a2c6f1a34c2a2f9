use Rattle.std.proofs.Common.{ℕ, arith}
use Rattle.range.proofs.Places.{reached}
use Rattle.range.proofs.unsigned.operations.URangeDomain.join.Goals as goal

pub returns-clause-join : goal.returns-clause-join
returns-clause-join c = c.spanned.ensures.join (λ (n : ℕ). n)

pub returns-clause-least : goal.returns-clause-least
returns-clause-least c = c.spanned.ensures.least (λ (n : ℕ). n) (reached c.args.a (omega arith)) (reached c.args.b (omega arith))
