-- Requests that were read and are not answered yet.
use Rattle.std.specs.Prelude.{◌==◌, ℕ, ◌-◌, List, Option, Some, None, option_map, replicate, slice_index_or, slice_set}
use Rattle.std.specs.List.{after_first, before_first}
use Rattle.answers.specs.Paths.{endpoint_at}
use Rattle.answers.specs.declared.endpoint.Endpoint.{Endpoint}
use Rattle.messages.specs.Target.{path_of}
use Rattle.metrics.specs.declared.watches.Timed.{Timed}
use Rattle.metrics.specs.declared.watches.Watch.{Watch}
use Rattle.metrics.specs.declared.watches.Watches.{Watches}

-- the word behind the first blank: the target of a request
abbrev pub target_in : List ℕ → List ℕ
target_in bytes = before_first (λ b. b == 32) (after_first (λ b. b == 32) bytes)

-- the endpoint whose path that is
abbrev pub path_in : List ℕ → Option Endpoint
path_in bytes = endpoint_at (path_of (target_in bytes))

abbrev pub no_watches : Watches
no_watches = record { waiting = replicate 64 None }

abbrev pub watch_at : Watches → ℕ → Option Watch
watch_at watches place = slice_index_or watches.waiting place None

-- the path of what was read before and is not answered, or of these bytes
abbrev pub path_kept : Option Watch → List ℕ → Option Endpoint
path_kept (Some watch) bytes = watch.path
path_kept None bytes = path_in bytes

-- these bytes were read: from now on it is waited for a reply
abbrev pub after_read : Watches → ℕ → List ℕ → ℕ → Watches
after_read watches place bytes now =
    record { waiting = slice_set watches.waiting place (Some (record { path = path_kept (watch_at watches place) bytes; since = now })) }

-- nothing is watched at the place
abbrev pub unwatched : Watches → ℕ → Watches
unwatched watches place = record { waiting = slice_set watches.waiting place None }

-- since the last part came
abbrev pub timed_since : ℕ → Watch → Timed
timed_since now watch = record { path = watch.path; nanos = now - watch.since }

abbrev pub timed_at : Watches → ℕ → ℕ → Option Timed
timed_at watches place now = option_map (timed_since now) (watch_at watches place)
