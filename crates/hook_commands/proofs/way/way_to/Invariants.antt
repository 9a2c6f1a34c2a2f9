use Rattle.std.proofs.Common.{◌-◌, length}
use Rattle.hook_commands.specs.Ways.{roads_of}
use Rattle.hook_commands.proofs.Ways.{IsFollowed}
use Rattle.hook_commands.proofs.way.way_to.Given as goal

abbrev pub invariant-loop-at : goal.invariant-loop-at
invariant-loop-at l = IsFollowed (roads_of l.program l.onward l.fn.unwritten) l.slot l.hops.items l.at

abbrev pub decreases-loop-at : goal.decreases-loop-at
decreases-loop-at l = length l.steps.items - l.at
