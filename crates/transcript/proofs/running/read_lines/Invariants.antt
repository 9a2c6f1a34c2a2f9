use Rattle.std.proofs.Common.{map, take}
use Rattle.transcript.specs.Called.{StateEach}
use Rattle.transcript.specs.Seen.{stated}
use Rattle.transcript.proofs.Stated.{texts}
use Rattle.transcript.proofs.running.read_lines.Given as goal

-- the lines so far state what was read
abbrev pub invariant-loop-text : goal.invariant-loop-text
invariant-loop-text l = StateEach (texts (take l.text-index l.texts)) (map stated l.lines.items)
