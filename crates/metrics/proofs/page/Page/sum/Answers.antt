use Rattle.metrics.specs.Lines.{label_text}
use Rattle.metrics.specs.Text.{sum_line}
use Rattle.std.specs.Prelude.{codes, decimal}
use Rattle.metrics.proofs.Joined.{joined5}
use Rattle.metrics.proofs.page.Page.sum.Goals as goal

pub returns : goal.returns
unfolding sum_line
returns c =
    joined5 (codes "oauthd_request_seconds_sum{") (label_text (codes "path") c.args.path.now) (codes "} ") (decimal c.args.nanos) (codes "e-9\n")
    c.args.self.now.text.items c.put.new.self.text.items c.path.new.self.text.items c.put-2.new.self.text.items c.number.new.self.text.items c.put-3.new.self.text.items
    c.in_ok-put.ensures c.in_ok-path.ensures c.in_ok-put-2.ensures c.in_ok-number.ensures c.in_ok-put-3.ensures
