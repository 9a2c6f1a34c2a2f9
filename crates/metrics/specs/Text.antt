-- What is measured, in the text format of Prometheus.
use Rattle.std.specs.Prelude.{◌≡◌, ℕ, List, [], ◌∷◌, ◌++◌, Option, None, Some, codes, decimal}
use Rattle.std.specs.List.{flat_map}
use Rattle.answers.specs.Paths.{name_at}
use Rattle.answers.specs.Tallies.{count_at}
use Rattle.answers.specs.declared.endpoint.TheConstants.{ENDPOINTS}
use Rattle.answers.specs.declared.endpoint.Endpoint.{Endpoint}
use Rattle.answers.specs.declared.tally.Asked.{Asked}
use Rattle.answers.specs.declared.tally.Replied.{Replied}
use Rattle.answers.specs.declared.tally.Wanted.{Wanted}
use Rattle.outside.specs.declared.report.Report.{Report}
use Rattle.metrics.specs.Bounds.{le_of}
use Rattle.metrics.specs.Denied.{Counted, Denied}
use Rattle.metrics.specs.Lines.{family_text, label_text, labelled_line, plain_line}
use Rattle.metrics.specs.Measured.{latency_at}
use Rattle.metrics.specs.declared.histogram.Bucket.{Bucket}
use Rattle.metrics.specs.declared.histogram.Histogram.{Histogram}
use Rattle.metrics.specs.declared.latencies.Latencies.{Latencies}
use Rattle.metrics.specs.declared.metrics.Metrics.{Metrics}
use Rattle.metrics.specs.declared.waits.Waits.{Waits}

-- a name of one number, and that
unfoldable pub single_text : List ℕ → List ℕ → List ℕ → ℕ → List ℕ
single_text name kind help value = family_text name kind help ++ plain_line name value

-- since when the server runs
abbrev pub began_text : ℕ → List ℕ
began_text began = single_text (codes "oauthd_start_time_seconds") (codes "gauge") (codes "When the program began, in seconds since 1970.") began

-- A REPORT

-- how many requests there were at an endpoint
abbrev pub request_line : Asked → Endpoint → List ℕ
request_line asked endpoint = labelled_line (codes "oauthd_requests_total") (codes "path") (name_at endpoint) (count_at asked endpoint)

-- how many there were, by their paths
unfoldable pub requests_text : Asked → List ℕ
requests_text asked =
    family_text (codes "oauthd_requests_total") (codes "counter") (codes "Requests that were answered, by their paths.")
    ++ flat_map (request_line asked) ENDPOINTS
    ++ labelled_line (codes "oauthd_requests_total") (codes "path") (codes "nowhere") asked.nowhere

-- how many replies there were of a status
abbrev pub status_line : List ℕ → ℕ → List ℕ
status_line status count = labelled_line (codes "oauthd_replies_total") (codes "status") status count

-- how many there were, by their statuses
unfoldable pub replies_text : Replied → List ℕ
replies_text replied =
    family_text (codes "oauthd_replies_total") (codes "counter") (codes "Replies, by their statuses.")
    ++ status_line (codes "200") replied.ok
    ++ status_line (codes "302") replied.found
    ++ status_line (codes "400") replied.bad_request
    ++ status_line (codes "401") replied.unauthorized
    ++ status_line (codes "403") replied.forbidden
    ++ status_line (codes "404") replied.not_found
    ++ status_line (codes "405") replied.not_allowed
    ++ status_line (codes "503") replied.unavailable

-- how often something was wanting
abbrev pub why_line : List ℕ → ℕ → List ℕ
why_line why count = labelled_line (codes "oauthd_unavailable_total") (codes "why") why count

-- how many replies were 503, by what was wanting
unfoldable pub unavailable_text : Wanted → List ℕ
unavailable_text wanted =
    family_text (codes "oauthd_unavailable_total") (codes "counter") (codes "Replies with status 503, by what was wanting.")
    ++ why_line (codes "memory") wanted.memory
    ++ why_line (codes "store_full") wanted.store_room
    ++ why_line (codes "client_full") wanted.client_room
    ++ why_line (codes "drawn_twice") wanted.fresh_draw
    ++ why_line (codes "consents_full") wanted.consent_room

-- how many grants hooks denied
abbrev pub denied_text : ℕ → List ℕ
denied_text denied = single_text (codes "oauthd_denied_total") (codes "counter") (codes "Grants that a hook denied.") denied

-- how many connections there are, and came
unfoldable pub connections_text : Report → List ℕ
connections_text report =
    single_text (codes "oauthd_connections") (codes "gauge") (codes "Connections that are there.") report.open
    ++ single_text (codes "oauthd_accepted_total") (codes "counter") (codes "Connections that came.") report.accepted

-- how many bytes the file of the state has, where there is one
abbrev pub state_text : Option ℕ → List ℕ
state_text None = []
state_text (Some bytes) = single_text (codes "oauthd_state_bytes") (codes "gauge") (codes "Bytes of the state file.") bytes

-- how much is kept
unfoldable pub kept_text : Report → List ℕ
kept_text report =
    single_text (codes "oauthd_codes_and_tokens") (codes "gauge") (codes "Codes and tokens in memory.") report.records
    ++ single_text (codes "oauthd_consents") (codes "gauge") (codes "Consents that are kept.") report.consents
    ++ single_text (codes "oauthd_hooks") (codes "gauge") (codes "Hooks.") report.hooks
    ++ state_text report.state

unfoldable pub report_text : Report → List ℕ
report_text report =
    requests_text report.tally.asked
    ++ replies_text report.tally.replied
    ++ unavailable_text report.tally.wanted
    ++ denied_text report.tally.denied
    ++ connections_text report
    ++ kept_text report

-- what was reported last, if anything
abbrev pub reported_text : Option Report → List ℕ
reported_text None = []
reported_text (Some report) = report_text report

-- DENIALS

-- how often a hook denied
abbrev pub hook_line : List ℕ → ℕ → List ℕ
hook_line hook count = labelled_line (codes "oauthd_denied_by_hook_total") (codes "hook") hook count

abbrev pub counted_line : Counted → List ℕ
counted_line counted = hook_line counted.hook counted.count

-- no hook's name has a `_`
unfoldable pub denials_text : Denied → List ℕ
denials_text denials =
    family_text (codes "oauthd_denied_by_hook_total") (codes "counter") (codes "Grants that were denied, by the hook that did.")
    ++ flat_map counted_line denials.by ++ hook_line (codes "_others") denials.others

-- TIMES, in seconds: billionths of them

-- how many at a path took at most so long
unfoldable pub bucket_line : List ℕ → List ℕ → ℕ → List ℕ
bucket_line path bound count =
    codes "oauthd_request_seconds_bucket{" ++ label_text (codes "path") path ++ codes "," ++ label_text (codes "le") bound
    ++ codes "} " ++ decimal count ++ codes "\n"

abbrev pub bucket_text : List ℕ → Bucket → List ℕ
bucket_text path bucket = bucket_line path (le_of bucket.bound) bucket.count

-- how long all at a path took together
unfoldable pub sum_line : List ℕ → ℕ → List ℕ
sum_line path nanos = codes "oauthd_request_seconds_sum{" ++ label_text (codes "path") path ++ codes "} " ++ decimal nanos ++ codes "e-9\n"

-- how many there were at a path
abbrev pub count_line : List ℕ → ℕ → List ℕ
count_line path count = labelled_line (codes "oauthd_request_seconds_count") (codes "path") path count

-- how long requests at a path took
unfoldable pub histogram_text : List ℕ → Histogram → List ℕ
histogram_text path histogram =
    flat_map (bucket_text path) histogram.buckets ++ bucket_line path (codes "+Inf") histogram.count ++ sum_line path histogram.sum
    ++ count_line path histogram.count

-- at that of an endpoint
abbrev pub latency_text : Latencies → Endpoint → List ℕ
latency_text latencies endpoint = histogram_text (name_at endpoint) (latency_at latencies (Some endpoint))

-- by their paths
unfoldable pub latencies_text : Latencies → List ℕ
latencies_text latencies =
    family_text (codes "oauthd_request_seconds") (codes "histogram") (codes "From reading a request to its reply being written, by its path.")
    ++ flat_map (latency_text latencies) ENDPOINTS ++ histogram_text (codes "nowhere") (latency_at latencies None)

-- a number of nanoseconds, without labels
unfoldable pub nanos_line : List ℕ → ℕ → List ℕ
nanos_line name nanos = name ++ codes " " ++ decimal nanos ++ codes "e-9\n"

-- how long it was waited until what was decided was kept
unfoldable pub waits_text : Waits → List ℕ
waits_text waits =
    family_text (codes "oauthd_keep_seconds") (codes "summary") (codes "From the last read of a round to its first write, while changes are kept.")
    ++ nanos_line (codes "oauthd_keep_seconds_sum") waits.sum ++ plain_line (codes "oauthd_keep_seconds_count") waits.count

-- until the state file was on the disk
unfoldable pub syncs_text : Waits → List ℕ
syncs_text syncs =
    family_text (codes "oauthd_sync_seconds") (codes "summary") (codes "Syncs of the state file, each until it is on the disk.")
    ++ nanos_line (codes "oauthd_sync_seconds_sum") syncs.sum ++ plain_line (codes "oauthd_sync_seconds_count") syncs.count

-- ALL OF IT

unfoldable pub metrics_text : Metrics → List ℕ
metrics_text metrics =
    began_text metrics.began ++ reported_text metrics.report ++ denials_text metrics.denials ++ latencies_text metrics.latencies
    ++ waits_text metrics.waits ++ syncs_text metrics.syncs

-- something was measured, and this text tells all of it
abbrev pub IsMetricsText : List ℕ → Type 0
IsMetricsText text = (metrics : Metrics) × (text ≡ metrics_text metrics)
