use Rattle.std.proofs.Common.{◌≡◌, ◌≤◌, ◌*◌, take}
use Rattle.std.specs.Prelude.{sum_by}
use Rattle.std.specs.List.{AllByRecursion}
use Rattle.insn.specs.Instruction.{slots_of, Fits}
use Rattle.insn.proofs.program.slots_of_all.Given as goal

abbrev pub invariant-loop-insn : goal.invariant-loop-insn
invariant-loop-insn l = record { so_far : l.total ≡ sum_by slots_of (take l.insn-index l.insns); few : l.total ≤ 2 * l.insn-index; fit : AllByRecursion Fits (take l.insn-index l.insns) }
