use Rattle.std.proofs.Common.{map, take}
use Rattle.std.specs.Box.{box_value}
use Rattle.hook_commands.specs.Explanations.{AreCasesTold}
use Rattle.hook_commands.proofs.why.cases_told.Given as goal

abbrev pub invariant-loop-known : goal.invariant-loop-known
invariant-loop-known l = AreCasesTold l.layout l.insn (map box_value (take l.known-index l.cases)) l.told.items
