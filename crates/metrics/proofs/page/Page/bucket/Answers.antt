use Rattle.metrics.specs.Lines.{label_text}
use Rattle.metrics.specs.Text.{bucket_line}
use Rattle.std.specs.Prelude.{codes, decimal}
use Rattle.metrics.proofs.Joined.{joined7}
use Rattle.metrics.proofs.page.Page.bucket.Goals as goal

pub returns : goal.returns
unfolding bucket_line
returns c =
    joined7 (codes "oauthd_request_seconds_bucket{") (label_text (codes "path") c.args.path.now) (codes ",") (label_text (codes "le") c.args.bound.now) (codes "} ") (decimal c.args.count) (codes "\n")
    c.args.self.now.text.items c.put.new.self.text.items c.path.new.self.text.items c.put-2.new.self.text.items c.bound.new.self.text.items c.put-3.new.self.text.items c.number.new.self.text.items c.put-4.new.self.text.items
    c.in_ok-put.ensures c.in_ok-path.ensures c.in_ok-put-2.ensures c.in_ok-bound.ensures c.in_ok-put-3.ensures c.in_ok-number.ensures c.in_ok-put-4.ensures
