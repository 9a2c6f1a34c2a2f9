use Rattle.insn.specs.RunLaws.{exit_or_stuck, one_exit, one_place}
use Rattle.insn.proofs.laws.a_run_has_one_end.Goals as goal

pub returns-clause-exit : goal.returns-clause-exit
returns-clause-exit c = λ layout program bytes r0 count q0 more after late x y. one_exit layout program bytes x y

pub returns-clause-stuck : goal.returns-clause-stuck
returns-clause-stuck c = λ layout program bytes slot place after late x y. one_place layout program bytes x y

pub returns-clause-either : goal.returns-clause-either
returns-clause-either c = λ layout program bytes r0 count slot after late x y. exit_or_stuck layout program bytes x y
