-- What is measured of a server.
use Rattle.std.specs.Prelude.{ℕ, List, None, Option, Some, replicate, slice_index_or, slice_set}
use Rattle.answers.specs.Paths.{place_of}
use Rattle.answers.specs.declared.endpoint.Endpoint.{Endpoint}
use Rattle.metrics.specs.Denied.{no_denials}
use Rattle.metrics.specs.Histograms.{noted, nothing_noted, plus}
use Rattle.metrics.specs.declared.histogram.Histogram.{Histogram}
use Rattle.metrics.specs.declared.latencies.Latencies.{Latencies}
use Rattle.metrics.specs.declared.metrics.Metrics.{Metrics}
use Rattle.metrics.specs.declared.waits.Waits.{Waits}

-- the place of the path of an endpoint, or of all others
abbrev pub place_at : Option Endpoint → ℕ
place_at (Some endpoint) = place_of endpoint
place_at None = 9

abbrev pub no_latencies : Latencies
no_latencies = record { histograms = replicate 10 nothing_noted }

-- how long those took whose path is that of the endpoint, or of none
abbrev pub latency_at : Latencies → Option Endpoint → Histogram
latency_at latencies path = slice_index_or latencies.histograms (place_at path) nothing_noted

-- one more at the path took so long
abbrev pub latencies_after : Latencies → Option Endpoint → ℕ → Latencies
latencies_after latencies path nanos =
    record { histograms = slice_set latencies.histograms (place_at path) (noted (latency_at latencies path) nanos) }

-- it was waited for once more, for so long
abbrev pub waited : Waits → ℕ → Waits
waited waits nanos = record { sum = plus waits.sum nanos; count = plus waits.count 1 }

abbrev pub nothing_measured : ℕ → Metrics
nothing_measured began = record {
  began = began;
  report = None;
  denials = no_denials;
  latencies = no_latencies;
  waits = record { sum = 0; count = 0 };
  syncs = record { sum = 0; count = 0 };
}
