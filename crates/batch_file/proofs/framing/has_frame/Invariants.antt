use Rattle.std.proofs.Common.{◌<◌, List, ℕ, drop}
use Rattle.batch_file.specs.Frames.{IsNoFrame}
use Rattle.batch_file.proofs.framing.has_frame.Given as goal

abbrev pub invariant-loop-at : goal.invariant-loop-at
invariant-loop-at l = (k : ℕ) → k < l.at → IsNoFrame l.before (drop k l.bytes)
