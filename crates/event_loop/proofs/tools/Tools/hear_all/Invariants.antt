use Rattle.std.proofs.Common.{◌≡◌, drop}
use Rattle.event_loop.proofs.Names.{promises, NobodyIsSilent, LeadsToHearing, running, keeping}
use Rattle.event_loop.proofs.tools.Tools.hear_all.Given as goal

abbrev pub invariant-loop-index : goal.invariant-loop-index
invariant-loop-index g l = record {
  hears : LeadsToHearing (promises g.N.Sockets g.C.Clocks g.J.Journal (keeping g.K.Keeper) g.H.HookHost) l.found (running l.initial.service l.self) (drop l.index l.found) (running l.service l.self);
  within : NobodyIsSilent l.initial.service → NobodyIsSilent l.service;
  heard : l.service.heard ≡ l.initial.service.heard;
}
