-- The bounds of a histogram's buckets.
use Rattle.std.specs.Prelude.{ℕ, List, codes}
use Rattle.metrics.specs.declared.bound.Bound.{Bound}
use Rattle.metrics.specs.declared.bound.Bound.TheVariants.{Micros500, Millis1, Micros2500, Millis5, Millis10, Millis25, Millis50, Millis100, Millis250, Second}

-- in nanoseconds
abbrev pub nanos_of : Bound → ℕ
nanos_of Micros500 = 500000
nanos_of Millis1 = 1000000
nanos_of Micros2500 = 2500000
nanos_of Millis5 = 5000000
nanos_of Millis10 = 10000000
nanos_of Millis25 = 25000000
nanos_of Millis50 = 50000000
nanos_of Millis100 = 100000000
nanos_of Millis250 = 250000000
nanos_of Second = 1000000000

-- in seconds, as its label says it
abbrev pub le_of : Bound → List ℕ
le_of Micros500 = codes "0.0005"
le_of Millis1 = codes "0.001"
le_of Micros2500 = codes "0.0025"
le_of Millis5 = codes "0.005"
le_of Millis10 = codes "0.01"
le_of Millis25 = codes "0.025"
le_of Millis50 = codes "0.05"
le_of Millis100 = codes "0.1"
le_of Millis250 = codes "0.25"
le_of Second = codes "1"
