use Rattle.std.proofs.Common.{refl}
use Rattle.state_keeper.proofs.Walked.{begins, front_all}
use Rattle.state_keeper.proofs.passing.begin.Goals as goal

pub returns-clause-begun : goal.returns-clause-begun
returns-clause-begun g c = begins g.D.Device c.args.file.now c.requires.on_disk c.args.known.now _ c.requires.known refl refl c.new-starts.ensures.items c.new-last.ensures refl

pub returns-clause-front : goal.returns-clause-front
returns-clause-front g c = front_all g.D.Device c.args.file.now c.requires.on_disk
