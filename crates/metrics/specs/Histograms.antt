-- How many took how long.
use Rattle.std.specs.Prelude.{ℕ, ◌+◌, ◌-◌, ◌^◌, List, map, min, nat_le, if◌then◌else◌}
use Rattle.metrics.specs.Bounds.{nanos_of}
use Rattle.metrics.specs.declared.bound.TheConstants.{BOUNDS}
use Rattle.metrics.specs.declared.bound.Bound.{Bound}
use Rattle.metrics.specs.declared.histogram.Bucket.{Bucket}
use Rattle.metrics.specs.declared.histogram.Histogram.{Histogram}

-- so much more, up to the greatest number
abbrev pub plus : ℕ → ℕ → ℕ
plus count more = min (count + more) (2 ^ 64 - 1)

abbrev pub empty_bucket : Bound → Bucket
empty_bucket bound = record { bound = bound; count = 0 }

abbrev pub nothing_noted : Histogram
nothing_noted = record { buckets = map empty_bucket BOUNDS; sum = 0; count = 0 }

-- one more took so long: each bucket grows whose bound is that or longer
abbrev pub bucket_after : ℕ → Bucket → Bucket
bucket_after nanos bucket = if nat_le nanos (nanos_of bucket.bound) then record bucket { count = plus bucket.count 1 } else bucket

abbrev pub noted : Histogram → ℕ → Histogram
noted histogram nanos = record {
  buckets = map (bucket_after nanos) histogram.buckets;
  sum = plus histogram.sum nanos;
  count = plus histogram.count 1;
}
