use Rattle.std.proofs.Common.{List, [], ℕ, ap, ◌∙◌}
use Rattle.change_codec.specs.Happened.{all_dated}
use Rattle.change_codec.specs.Spelling.{dated_format}
use Rattle.wire.specs.Lists.{each_onto, each_onto_is}
use Rattle.change_codec.proofs.batch.spelled.Goals as goal

pub returns-clause-written : goal.returns-clause-written
returns-clause-written c =
    let ds = all_dated c.args.moment c.args.changes.now in
    c.in-Ok.ensures.written ∙ ap (λ (out : List ℕ). each_onto dated_format out ds) c.requires ∙ each_onto_is dated_format [] ds
