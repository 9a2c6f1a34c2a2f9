use Rattle.std.proofs.Common.{◌≡◌, ◌-◌, ◌++◌, length, map, take}
use Rattle.machine.proofs.Names.{Byte, low_bytes}
use Rattle.machine.proofs.cells.fill_cells.Given as goal

-- what is written and what is left are all
abbrev pub invariant-loop-cell : goal.invariant-loop-cell
invariant-loop-cell l = map Byte (low_bytes (length l.initial.cells) l.number) ≡ take l.cell-index l.cells ++ map Byte (low_bytes (length l.initial.cells - l.cell-index) l.rest)
