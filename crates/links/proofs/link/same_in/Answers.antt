use Rattle.links.proofs.Linked.{covered_kept, covered_narrowed}
use Rattle.links.proofs.Names.{W64}
use Rattle.links.proofs.link.same_in.Goals as goal

pub returns-then-has-clause-right : goal.returns-then-has-clause-right
returns-then-has-clause-right c = covered_kept c.args.numbers c.args.others

pub returns-then-has-clause-narrowed : goal.returns-then-has-clause-narrowed
returns-then-has-clause-narrowed c = (c.args.others, covered_narrowed W64 c.args.numbers c.args.others _ (c.has.ensures.0 c.if-has.true) (c.covers.ensures.members c.if-covers.true))
