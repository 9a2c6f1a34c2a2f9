use Rattle.metrics.specs.Lines.{family_text, plain_line}
use Rattle.metrics.specs.Text.{nanos_line, syncs_text}
use Rattle.std.specs.Prelude.{codes}
use Rattle.metrics.proofs.Joined.{joined3}
use Rattle.metrics.proofs.page.Page.syncs.Goals as goal

pub returns : goal.returns
unfolding syncs_text
returns c =
    joined3 (family_text (codes "oauthd_sync_seconds") (codes "summary") (codes "Syncs of the state file, each until it is on the disk.")) (nanos_line (codes "oauthd_sync_seconds_sum") c.args.syncs.sum) (plain_line (codes "oauthd_sync_seconds_count") c.args.syncs.count)
    c.args.self.now.text.items c.family.new.self.text.items c.nanos.new.self.text.items c.plain.new.self.text.items
    c.in_ok-family.ensures c.in_ok-nanos.ensures c.in_ok-plain.ensures
