use Rattle.std.proofs.Common.{refl}
use Rattle.reg_kind.proofs.reg.Reg.join.Goals as goal

pub returns-in-Number-Number-clause-kinds : goal.returns-in-Number-Number-clause-kinds
returns-in-Number-Number-clause-kinds c = rw (c.in-Number-Number.is-0, c.in-Number-Number.is-1) (c.join.result, refl, c.join.ensures.least)
