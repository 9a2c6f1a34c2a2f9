use Rattle.std.proofs.Common.{◌<◌, arith, length}
use Rattle.machine.proofs.Numbers.{low_bytes-next, moved_over}
use Rattle.machine.proofs.cells.fill_bytes.Goals as goal

pub loop-byte-preserved : goal.loop-byte-preserved
loop-byte-preserved c =
    let lt : c.loop-byte.byte-index < length c.loop-byte.bytes = omega arith in
    moved_over _ _ _ _ _ _ lt c.loop-byte.invariant (low_bytes-next _ _ _ c.loop-byte-test.true)
