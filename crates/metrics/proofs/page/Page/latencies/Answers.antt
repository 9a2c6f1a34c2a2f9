use Rattle.answers.specs.declared.endpoint.TheConstants.{ENDPOINTS}
use Rattle.metrics.specs.Lines.{family_text}
use Rattle.metrics.specs.Text.{histogram_text, latencies_text, latency_text}
use Rattle.std.specs.List.{flat_map}
use Rattle.std.specs.Prelude.{codes}
use Rattle.metrics.proofs.Joined.{joined3}
use Rattle.metrics.proofs.page.Page.latencies.Goals as goal

pub returns : goal.returns
unfolding latencies_text
returns c =
    rw c.at.ensures at (joined3 (family_text (codes "oauthd_request_seconds") (codes "histogram") (codes "From reading a request to its reply being written, by its path.")) (flat_map (latency_text c.args.latencies.now) ENDPOINTS) (histogram_text (codes "nowhere") c.at.result)
    c.args.self.now.text.items c.family.new.self.text.items c.latencies_at.new.self.text.items c.histogram.new.self.text.items
    c.in_ok-family.ensures c.in_ok-latencies_at.ensures c.in_ok-histogram.ensures)
