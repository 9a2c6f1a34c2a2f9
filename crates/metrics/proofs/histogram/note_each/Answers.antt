use Rattle.std.proofs.Common.{arith, refl}
use Rattle.metrics.specs.Histograms.{bucket_after}
use Rattle.metrics.proofs.Each.{all_changed, next_changed}
use Rattle.metrics.proofs.histogram.note_each.Goals as goal

pub loop-bucket-init : goal.loop-bucket-init
loop-bucket-init c = refl

pub loop-bucket-preserved : goal.loop-bucket-preserved
loop-bucket-preserved c =
    next_changed (bucket_after c.args.nanos) c.loop-bucket.bucket-index c.args.buckets.now c.loop-bucket.buckets _ c.note.new.self c.loop-bucket.invariant (omega arith) c.note.ensures

pub returns : goal.returns
returns c = all_changed (bucket_after c.args.nanos) c.loop-bucket.bucket-index c.args.buckets.now c.loop-bucket.buckets c.loop-bucket.invariant (omega arith)
