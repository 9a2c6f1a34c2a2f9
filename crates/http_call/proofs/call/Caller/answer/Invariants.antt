use Rattle.std.proofs.Common.{◌≤◌, length}
use Rattle.http_call.specs.Answers.{HasRun, begun, reading}
use Rattle.http_call.proofs.call.Caller.answer.Given as goal

abbrev pub invariant-steps : goal.invariant-steps
invariant-steps g l = record {
  within : length l.response.body.items ≤ l.fn.most;
  run : HasRun (g.S.Read.remaining l.fn.self.stream) (g.S.Read.remaining l.self.stream) (begun l.fn.self) (reading l.self l.response);
}

abbrev pub decreases-steps : goal.decreases-steps
decreases-steps g l = l.left
