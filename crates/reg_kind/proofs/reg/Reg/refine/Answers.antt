use Rattle.std.proofs.Common.{refl}
use Rattle.reg_kind.proofs.reg.Reg.refine.Goals as goal

pub returns-clause-kinds : goal.returns-clause-kinds
returns-clause-kinds c = rw (c.in-Number-Number.is-0, c.in-Number-Number.is-1) (c.in_ok-left.left, c.in_ok-left.right, refl, c.in_ok-left.ensures.narrowed)
