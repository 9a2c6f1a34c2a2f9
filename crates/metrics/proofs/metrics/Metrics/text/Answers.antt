use Rattle.std.proofs.Common.{◌∙◌, ℕ, List, ◌++◌, ap}
use Rattle.metrics.specs.Text.{began_text, denials_text, latencies_text, metrics_text, reported_text, syncs_text, waits_text}
use Rattle.metrics.proofs.Joined.{joined6}
use Rattle.metrics.proofs.metrics.Metrics.text.Goals as goal

pub returns : goal.returns
unfolding metrics_text
returns c =
    joined6 (began_text c.args.self.now.began) (reported_text c.args.self.now.report) (denials_text c.args.self.now.denials) (latencies_text c.args.self.now.latencies) (waits_text c.args.self.now.waits) (syncs_text c.args.self.now.syncs)
    c.in_ok-page.page.text.items c.began.new.self.text.items c.reported.new.self.text.items c.denials.new.self.text.items c.latencies.new.self.text.items c.waits.new.self.text.items c.syncs.new.self.text.items
    c.in_ok-began.ensures c.in_ok-reported.ensures c.in_ok-denials.ensures c.in_ok-latencies.ensures c.in_ok-waits.ensures c.in_ok-syncs.ensures
    ∙ ap (λ (l : List ℕ). l ++ metrics_text c.args.self.now) c.in_ok-page.ensures
