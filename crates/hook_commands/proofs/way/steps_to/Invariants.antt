use Rattle.std.proofs.Common.{◌≡◌, ◌++◌, List, length}
use Rattle.insn.specs.declared.instruction.Insn.{Insn}
use Rattle.insn.specs.Program.{slot_count}
use Rattle.hook_commands.specs.Ways.{roads_of}
use Rattle.hook_commands.specs.WaySteps.{AreWaySteps}
use Rattle.hook_commands.proofs.way.steps_to.Given as goal

abbrev pub invariant-loop-insn : goal.invariant-loop-insn
invariant-loop-insn l = record {
  parts : (after : List Insn) × (l.program ≡ l.rest ++ after);
  here : l.slot ≡ slot_count l.rest;
  table : AreWaySteps (roads_of l.program l.onward l.unwritten) l.goal l.slot l.steps.items;
}

abbrev pub decreases-loop-insn : goal.decreases-loop-insn
decreases-loop-insn l = length l.rest
