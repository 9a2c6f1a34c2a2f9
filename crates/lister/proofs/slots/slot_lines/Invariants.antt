use Rattle.std.proofs.Common.{◌≡◌, ◌+◌, ◌++◌, length}
use Rattle.insn.specs.Program.{slot_count}
use Rattle.lister.specs.Slots.{lines_from, slot_lines}
use Rattle.lister.proofs.slots.slot_lines.Given as goal

abbrev pub decreases-loop-rest : goal.decreases-loop-rest
decreases-loop-rest l = length l.rest

abbrev pub invariant-loop-rest : goal.invariant-loop-rest
invariant-loop-rest l = record {
  whole : l.lines.items ++ lines_from l.slot l.rest ≡ slot_lines l.program;
  passed : l.slot + slot_count l.rest ≡ slot_count l.program;
}
