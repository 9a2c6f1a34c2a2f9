use Rattle.std.proofs.Common.{refl}
use Rattle.daemon.proofs.starting.means_of.Goals as goal

pub returns-clause-fresh : goal.returns-clause-fresh
returns-clause-fresh g c = record { undone = c.new.ensures.undone; untold = c.new-2.ensures; limits_are = refl; due_is = c.begin-tellings.ensures.due }
