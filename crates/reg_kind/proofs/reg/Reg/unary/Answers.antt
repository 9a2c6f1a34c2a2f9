use Rattle.std.proofs.Common.{refl}
use Rattle.reg_kind.proofs.reg.Reg.unary.Goals as goal

pub returns-in-Number : goal.returns-in-Number
returns-in-Number c = rw c.in-Number.is (c.unary.result, refl, c.unary.ensures.sound, c.unary.ensures.single)
