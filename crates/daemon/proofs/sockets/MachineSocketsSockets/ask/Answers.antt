use Rattle.std.proofs.Common.{inl, refl}
use Rattle.daemon.proofs.sockets.MachineSocketsSockets.ask.Goals as goal

pub returns : goal.returns
returns g c = record {
  noted = c.note.ensures;
  serving = record { config = refl; key = refl; text = refl };
  wanted = inl refl;
  passed = c.ask.ensures;
}
