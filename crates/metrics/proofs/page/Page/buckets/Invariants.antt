use Rattle.std.proofs.Common.{◌≡◌, ◌++◌, take}
use Rattle.std.specs.List.{flat_map}
use Rattle.metrics.specs.Text.{bucket_text}
use Rattle.metrics.proofs.page.Page.buckets.Given as goal

abbrev pub invariant-loop-bucket : goal.invariant-loop-bucket
invariant-loop-bucket l = l.self.text.items ≡ l.fn.self.text.items ++ flat_map (bucket_text l.path) (take l.bucket-index l.buckets)
