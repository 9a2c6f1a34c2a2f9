use Rattle.std.proofs.Common.{rules}
use Rattle.ports.proofs.Passing.{by_read}
use Rattle.daemon.proofs.sockets.MachineSocketsSockets.read.Goals as goal

pub returns-clause-done : goal.returns-clause-done
returns-clause-done g c = record {
  noted = search rules;
  serving = c.receive-came.ensures.serving;
  wanted = c.receive-came.ensures.wanted;
  passed = by_read _ _ c.receive-came.ensures.passed c.receive-came.result c.args.place c.receive-came.new.buffer;
}
