use Rattle.std.proofs.Common.{inl, refl}
use Rattle.ports.proofs.Passing.{by_write}
use Rattle.daemon.proofs.sockets.MachineSocketsSockets.write.Goals as goal

pub returns-clause-done : goal.returns-clause-done
returns-clause-done g c = record {
  noted = c.note.ensures;
  serving = record { config = refl; key = refl; text = refl };
  wanted = inl refl;
  passed = by_write _ _ c.write-took.ensures.passed c.write-took.result c.args.place c.args.bytes.now;
}
