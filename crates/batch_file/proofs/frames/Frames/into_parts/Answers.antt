use Rattle.batch_file.proofs.Wholes.{length-whole}
use Rattle.batch_file.proofs.frames.Frames.into_parts.Goals as goal

pub returns-clause-size : goal.returns-clause-size
returns-clause-size c = length-whole c.self.inside.last c.self.inside.bytes.items c.args.self c.self.invariant c.self.view_is
