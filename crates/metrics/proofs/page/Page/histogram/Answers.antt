use Rattle.metrics.specs.Text.{bucket_line, bucket_text, count_line, histogram_text, sum_line}
use Rattle.std.specs.List.{flat_map}
use Rattle.std.specs.Prelude.{codes}
use Rattle.metrics.proofs.Joined.{joined4}
use Rattle.metrics.proofs.page.Page.histogram.Goals as goal

pub returns : goal.returns
unfolding histogram_text
returns c =
    joined4 (flat_map (bucket_text c.args.path.now) c.args.histogram.now.buckets) (bucket_line c.args.path.now (codes "+Inf") c.args.histogram.now.count) (sum_line c.args.path.now c.args.histogram.now.sum) (count_line c.args.path.now c.args.histogram.now.count)
    c.args.self.now.text.items c.buckets.new.self.text.items c.bucket.new.self.text.items c.sum.new.self.text.items c.count.new.self.text.items
    c.in_ok-buckets.ensures c.in_ok-bucket.ensures c.in_ok-sum.ensures c.in_ok-count.ensures
