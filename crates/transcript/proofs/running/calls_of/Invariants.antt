use Rattle.std.proofs.Common.{map, take}
use Rattle.transcript.specs.Called.{AreCalls}
use Rattle.transcript.specs.Seen.{stated}
use Rattle.transcript.proofs.running.calls_of.Given as goal

-- the lines so far are these calls
abbrev pub invariant-loop-line : goal.invariant-loop-line
invariant-loop-line l = AreCalls (map stated (take l.line-index l.lines)) l.calls.items
