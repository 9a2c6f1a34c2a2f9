use Rattle.scalar.proofs.Narrowing.{narrowed}
use Rattle.scalar.proofs.scalar.ScalarDomain.refine.Goals as goal

pub returns-clause-narrowed : goal.returns-clause-narrowed
returns-clause-narrowed c =
    narrowed (record { cond = c.args.cond; width = c.args.width; taken = c.args.taken }) c.width_asked-asked.result c.args.a c.args.b
    (c.in_ok-left.left, c.in_ok-left.right) (c.in_ok-left-2.left, c.in_ok-left-2.right) (c.in_ok-exchange.field-0, c.in_ok-exchange-2.field-0)
    c.width_asked-asked.ensures.asked c.width_asked-asked.ensures.alike c.in_ok-left.ensures.narrowed c.in_ok-left-2.ensures.narrowed c.in_ok-exchange.ensures c.in_ok-exchange-2.ensures
