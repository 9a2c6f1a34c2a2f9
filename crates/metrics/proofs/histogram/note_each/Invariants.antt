use Rattle.std.proofs.Common.{◌≡◌}
use Rattle.metrics.specs.Histograms.{bucket_after}
use Rattle.metrics.proofs.Each.{front_changed}
use Rattle.metrics.proofs.histogram.note_each.Given as goal

-- so many are changed
abbrev pub invariant-loop-bucket : goal.invariant-loop-bucket
invariant-loop-bucket l = l.buckets ≡ front_changed (bucket_after l.nanos) l.bucket-index l.fn.buckets
