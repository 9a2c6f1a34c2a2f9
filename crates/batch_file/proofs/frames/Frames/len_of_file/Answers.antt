use Rattle.std.proofs.Common.{◌≡◌, length, rules, ◌∙◌}
use Rattle.batch_file.proofs.Wholes.{length-whole}
use Rattle.batch_file.proofs.frames.Frames.len_of_file.Goals as goal

pub returns : goal.returns
returns c =
    let same : c.len.result ≡ length c.self.inside.bytes.items = search rules in
    same ∙ length-whole c.self.inside.last c.self.inside.bytes.items c.args.self.now c.self.invariant c.self.view_is
