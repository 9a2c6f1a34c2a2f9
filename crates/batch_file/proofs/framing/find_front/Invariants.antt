use Rattle.std.proofs.Common.{◌≤◌, ◌-◌, length}
use Rattle.batch_file.specs.Frames.{lists}
use Rattle.batch_file.specs.Reads.{IsRead}
use Rattle.batch_file.proofs.framing.find_front.Given as goal

abbrev pub invariant-loop-batch : goal.invariant-loop-batch
invariant-loop-batch l = record { within : l.end ≤ length l.bytes; low : 16 ≤ l.end; read : IsRead (lists l.batches.items) l.last l.end l.bytes }

abbrev pub decreases-loop-batch : goal.decreases-loop-batch
decreases-loop-batch l = length l.bytes - l.end
