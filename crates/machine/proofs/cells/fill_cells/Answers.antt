use Rattle.std.proofs.Common.{◌<◌, arith, length, ap, map}
use Rattle.insn.specs.declared.state.Cell.TheVariants.{Byte}
use Rattle.machine.proofs.Numbers.{low_bytes-next, moved_over}
use Rattle.machine.proofs.cells.fill_cells.Goals as goal

pub loop-cell-preserved : goal.loop-cell-preserved
loop-cell-preserved c =
    let lt : c.loop-cell.cell-index < length c.loop-cell.cells = omega arith in
    moved_over _ _ _ _ _ _ lt c.loop-cell.invariant (ap (map Byte) (low_bytes-next _ _ _ c.loop-cell-test.true))
