use Rattle.std.proofs.Common.{rules}
use Rattle.reg_kind.proofs.Places.{kinds_access}
use Rattle.reg_kind.proofs.reg.Reg.access.Goals as goal

pub returns-in-Record-clause-right : goal.returns-in-Record-clause-right
returns-in-Record-clause-right c = kinds_access _ _ _ _ _ (search rules)

pub returns-in-Stack-clause-right : goal.returns-in-Stack-clause-right
returns-in-Stack-clause-right c = kinds_access _ _ _ _ _ (search rules)
