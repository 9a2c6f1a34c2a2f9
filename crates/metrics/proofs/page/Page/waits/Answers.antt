use Rattle.metrics.specs.Lines.{family_text, plain_line}
use Rattle.metrics.specs.Text.{nanos_line, waits_text}
use Rattle.std.specs.Prelude.{codes}
use Rattle.metrics.proofs.Joined.{joined3}
use Rattle.metrics.proofs.page.Page.waits.Goals as goal

pub returns : goal.returns
unfolding waits_text
returns c =
    joined3 (family_text (codes "oauthd_keep_seconds") (codes "summary") (codes "From the last read of a round to its first write, while changes are kept.")) (nanos_line (codes "oauthd_keep_seconds_sum") c.args.waits.sum) (plain_line (codes "oauthd_keep_seconds_count") c.args.waits.count)
    c.args.self.now.text.items c.family.new.self.text.items c.nanos.new.self.text.items c.plain.new.self.text.items
    c.in_ok-family.ensures c.in_ok-nanos.ensures c.in_ok-plain.ensures
