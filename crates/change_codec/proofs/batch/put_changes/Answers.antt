use Rattle.std.proofs.Common.{length, sym, ap, ◌∙◌}
use Rattle.consent.specs.declared.change.Changes.{Changes}
use Rattle.change_codec.specs.Happened.{all_dated}
use Rattle.change_codec.proofs.Leaving.{length_left}
use Rattle.change_codec.proofs.batch.put_changes.Goals as goal

pub returns-in_ok-put_left-in-Left-clause-count : goal.returns-in_ok-put_left-in-Left-clause-count
returns-in_ok-put_left-in-Left-clause-count c =
    sym (ap (λ (changes : Changes). length (all_dated c.args.moment changes)) c.in-Left.is ∙ length_left c.args.moment c.in-Left.owner c.in-Left.clients)
