use Rattle.std.proofs.Common.{◌≡◌, length, map, take}
use Rattle.insn.specs.declared.state.Cell.TheVariants.{Byte}
use Rattle.machine.proofs.cells.cells_from.Given as goal

abbrev pub invariant-loop-i : goal.invariant-loop-i
invariant-loop-i l = record { long : length l.cells ≡ 8; copied : take l.i l.cells ≡ map Byte (take l.i l.bytes) }
