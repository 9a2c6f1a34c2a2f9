use Rattle.std.proofs.Common.{refl}
use Rattle.links.proofs.Linked.{none_linked, numbers_linked}
use Rattle.links.proofs.link.Link.refine.Goals as goal

pub returns-in_err-a-clause-right : goal.returns-in_err-a-clause-right
returns-in_err-a-clause-right c = rw (c.in-Number-Number.is-0, c.in-Number-Number.is-1, c.from_residual.ensures) (none_linked c.args.self c.in-Number-Number.a c.in-Number-Number.b c.in_err-a.ensures.right)

pub returns-clause-right : goal.returns-clause-right
returns-clause-right c = rw (c.in-Number-Number.is-0, c.in-Number-Number.is-1) (numbers_linked c.args.self c.in-Number-Number.a c.in-Number-Number.b c.in_ok-a.a c.in_ok-a.b c.in_ok-a.ensures.right)

pub returns-clause-kinds : goal.returns-clause-kinds
returns-clause-kinds c = rw (c.in-Number-Number.is-0, c.in-Number-Number.is-1) (c.in_ok-a.a, c.in_ok-a.b, refl, c.in_ok-a.ensures.narrowed)
