use Rattle.std.proofs.Common.{refl}
use Rattle.scalar.specs.MemberLaws.{lies_in_own}
use Rattle.reg_kind.proofs.reg.Reg.covers.Goals as goal

pub returns-in-Number-Number-clause-kinds : goal.returns-in-Number-Number-clause-kinds
returns-in-Number-Number-clause-kinds c h = rw (c.in-Number-Number.is-0, c.in-Number-Number.is-1) (c.in-Number-Number.x, refl, lies_in_own c.in-Number-Number.x c.in-Number-Number.y)
