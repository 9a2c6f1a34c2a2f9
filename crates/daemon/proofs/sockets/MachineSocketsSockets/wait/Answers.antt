use Rattle.std.proofs.Common.{rules}
use Rattle.ports.proofs.Passing.{by_wait}
use Rattle.daemon.proofs.sockets.MachineSocketsSockets.wait.Goals as goal

pub returns-clause-done : goal.returns-clause-done
returns-clause-done g c = record {
  noted = search rules;
  serving = c.find-count.ensures.serving;
  wanted = c.find-count.ensures.wanted;
  passed = by_wait _ _ c.find-count.ensures.passed c.args.limit c.find-count.result c.find-count.new.found;
}
