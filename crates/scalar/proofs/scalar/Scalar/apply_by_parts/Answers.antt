use Rattle.std.proofs.Common.{arith}
use Rattle.scalar.proofs.Singles.{only_sums}
use Rattle.scalar.proofs.scalar.Scalar.apply_by_parts.Goals as goal

pub returns-in-Some-Some-clause-sums : goal.returns-in-Some-Some-clause-sums
returns-in-Some-Some-clause-sums c =
    only_sums _ _ c.args.a c.args.b c.exact.result c.in-Some-Some.x c.in-Some-Some.y _ (omega arith) (omega arith) c.in-Some-Some.ensures.ends c.in-Some-Some.ensures'.ends c.alu.ensures (λ x. (c.exact.ensures.alone x).0)
