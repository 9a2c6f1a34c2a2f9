use Rattle.links.proofs.Linked.{within_narrowed}
use Rattle.links.proofs.link.narrowed_to.Goals as goal

pub returns-then-has-clause-narrowed : goal.returns-then-has-clause-narrowed
returns-then-has-clause-narrowed c = (c.args.numbers, within_narrowed c.args.width c.args.numbers c.args.others _ (c.has.ensures.0 c.if-has.true) (c.covers.ensures.members c.if-covers.true))
