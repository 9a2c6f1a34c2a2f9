use Rattle.std.proofs.Common.{◌≡◌, ◌≤◌, length, take}
use Rattle.batch_file.specs.Frames.{without_zeros}
use Rattle.batch_file.proofs.framing.trimmed.Given as goal

abbrev pub invariant-loop-size : goal.invariant-loop-size
invariant-loop-size l = record { within : l.size ≤ length l.bytes; same : without_zeros (take l.size l.bytes) ≡ without_zeros l.bytes }

abbrev pub decreases-loop-size : goal.decreases-loop-size
decreases-loop-size l = l.size
