use Rattle.metrics.specs.Text.{connections_text, single_text}
use Rattle.std.specs.Prelude.{codes}
use Rattle.metrics.proofs.Joined.{joined2}
use Rattle.metrics.proofs.page.Page.connections.Goals as goal

pub returns : goal.returns
unfolding connections_text
returns c =
    joined2 (single_text (codes "oauthd_connections") (codes "gauge") (codes "Connections that are there.") c.args.report.now.open) (single_text (codes "oauthd_accepted_total") (codes "counter") (codes "Connections that came.") c.args.report.now.accepted)
    c.args.self.now.text.items c.single.new.self.text.items c.single-2.new.self.text.items
    c.in_ok-single.ensures c.in_ok-single-2.ensures
