use Rattle.std.proofs.Common.{◌≡◌}
use Rattle.line_journal.proofs.line_sink.LineSink.finish.Given as goal

abbrev pub invariant-loop-nth : goal.invariant-loop-nth
invariant-loop-nth l = l.self.line ≡ l.fn.self.line
