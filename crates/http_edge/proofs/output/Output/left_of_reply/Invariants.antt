use Rattle.std.proofs.Common.{vec_len}
use Rattle.http_edge.proofs.Ends.{IsLeast}
use Rattle.http_edge.proofs.output.Output.left_of_reply.Given as goal

abbrev pub invariant-loop-i : goal.invariant-loop-i
invariant-loop-i l = IsLeast (vec_len l.self.bytes) l.self.ends.items l.i l.least
