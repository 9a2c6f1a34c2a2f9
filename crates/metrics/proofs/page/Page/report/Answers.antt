use Rattle.metrics.specs.Text.{connections_text, denied_text, kept_text, replies_text, report_text, requests_text, unavailable_text}
use Rattle.metrics.proofs.Joined.{joined6}
use Rattle.metrics.proofs.page.Page.report.Goals as goal

pub returns : goal.returns
unfolding report_text
returns c =
    joined6 (requests_text c.args.report.now.tally.asked) (replies_text c.args.report.now.tally.replied) (unavailable_text c.args.report.now.tally.wanted) (denied_text c.args.report.now.tally.denied) (connections_text c.args.report.now) (kept_text c.args.report.now)
    c.args.self.now.text.items c.requests.new.self.text.items c.replies.new.self.text.items c.unavailable.new.self.text.items c.denied.new.self.text.items c.connections.new.self.text.items c.kept.new.self.text.items
    c.in_ok-requests.ensures c.in_ok-replies.ensures c.in_ok-unavailable.ensures c.in_ok-denied.ensures c.in_ok-connections.ensures c.in_ok-kept.ensures
