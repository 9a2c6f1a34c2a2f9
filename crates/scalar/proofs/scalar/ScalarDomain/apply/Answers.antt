use Rattle.std.proofs.Common.{arith}
use Rattle.scalar.proofs.Singles.{only_sums}
use Rattle.scalar.proofs.scalar.ScalarDomain.apply.Goals as goal

pub returns-in_default-clause-sound : goal.returns-in_default-clause-sound
returns-in_default-clause-sound c x y ha hb = (c.exchanged.ensures _).1 (c.result_of_parts.ensures.sound x y ha hb)

pub returns-in_default-clause-sums : goal.returns-in_default-clause-sums
returns-in_default-clause-sums c is_add is_64 fits s all x h = c.result_of_parts.ensures.sums is_add is_64 fits s all x ((c.exchanged.ensures x).0 h)

pub returns-in-Some-Some-clause-sums : goal.returns-in-Some-Some-clause-sums
returns-in-Some-Some-clause-sums c =
    only_sums _ _ c.args.a c.args.b c.exact.result c.in-Some-Some.left c.in-Some-Some.right _ (omega arith) (omega arith) c.in-Some-Some.ensures.ends c.in-Some-Some.ensures'.ends c.alu.ensures (λ x. (c.exact.ensures.alone x).0)
