use Rattle.std.proofs.Common.{◌≡◌, [], ◌∷◌, ◌++◌, rules, refl, ◌∙◌}
use Rattle.batch_file.specs.Frames.{header}
use Rattle.batch_file.proofs.Wholes.{empty_whole}
use Rattle.batch_file.proofs.frames.Frames.new.Goals as goal

pub of-requires : goal.of-requires
of-requires c =
    let spelled : c.push.new.self.items ≡ header ++ 0 ∷ [] = search rules in
    (empty_whole header c.push.new.self.items refl spelled).0

pub returns : goal.returns
returns c =
    let spelled : c.push.new.self.items ≡ header ++ 0 ∷ [] = search rules in
    c.of.ensures ∙ (empty_whole header c.push.new.self.items refl spelled).1
