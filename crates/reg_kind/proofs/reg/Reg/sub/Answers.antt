use Rattle.std.proofs.Common.{refl}
use Rattle.reg_kind.proofs.reg.Reg.sub.Goals as goal

pub returns-in-Number-Number : goal.returns-in-Number-Number
returns-in-Number-Number c = rw (c.in-Number-Number.is-0, c.in-Number-Number.is-1) (c.apply.result, refl, c.apply.ensures.sound, c.apply.ensures.single)
