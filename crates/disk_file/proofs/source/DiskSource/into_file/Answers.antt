use Rattle.disk_file.specs.Moments.{stood_before_of}
use Rattle.disk_file.proofs.source.DiskSource.into_file.Goals as goal

pub returns-clause-before : goal.returns-clause-before
returns-clause-before g c = stood_before_of g.B.Before.left _ _ c.args.self.opened
