use Rattle.reg_kind.proofs.Results.{low_copy_kinds}
use Rattle.reg_kind.proofs.reg.Reg.apply.Goals as goal

pub returns-in-W32-Mov : goal.returns-in-W32-Mov
returns-in-W32-Mov c = low_copy_kinds _ _ _ _ _ c.exact.result _ c.in-W32-Mov.is-0 c.in-W32-Mov.is-1 c.exact.ensures.single c.compute.ensures
