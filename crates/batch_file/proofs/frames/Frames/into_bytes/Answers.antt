use Rattle.batch_file.proofs.Tearing.{at_rest_file}
use Rattle.batch_file.proofs.frames.Frames.into_bytes.Goals as goal

pub returns-clause-readable : goal.returns-clause-readable
returns-clause-readable c =
    let w = c.self.invariant in
    at_rest_file w.0 1 c.self.inside.last c.self.inside.bytes.items w.1
