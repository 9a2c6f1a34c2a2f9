-- The line of a report, as tokens of JSON.
use Rattle.std.specs.Prelude.{ℕ, List, [], ◌∷◌, ◌++◌, codes, decimal, Option, Some, None}
use Rattle.std.specs.List.{flat_map}
use Rattle.json.specs.Token.{Token, begin_object, end_object, key, number}
use Rattle.answers.specs.Paths.{name_at}
use Rattle.answers.specs.Tallies.{count_at}
use Rattle.answers.specs.declared.endpoint.TheConstants.{ENDPOINTS}
use Rattle.answers.specs.declared.endpoint.Endpoint.{Endpoint}
use Rattle.answers.specs.declared.tally.Asked.{Asked}
use Rattle.answers.specs.declared.tally.Replied.{Replied}
use Rattle.answers.specs.declared.tally.Wanted.{Wanted}
use Rattle.outside.specs.declared.report.Report.{Report}

-- a member that is a number
abbrev pub count_tokens : List ℕ → ℕ → List Token
count_tokens name count = key name ∷ number (decimal count) ∷ []

-- how many connections there are, and came
abbrev pub connections_tokens : Report → List Token
connections_tokens report =
    key (codes "connections") ∷ begin_object ∷ count_tokens (codes "open") report.open
    ++ count_tokens (codes "accepted") report.accepted ++ end_object ∷ []

-- how many requests there were at the endpoint
abbrev pub endpoint_tokens : Asked → Endpoint → List Token
endpoint_tokens asked endpoint = count_tokens (name_at endpoint) (count_at asked endpoint)

-- how many requests there were, by their endpoints
abbrev pub asked_tokens : Asked → List Token
asked_tokens asked =
    key (codes "requests") ∷ begin_object ∷ flat_map (endpoint_tokens asked) ENDPOINTS
    ++ count_tokens (codes "nowhere") asked.nowhere ++ end_object ∷ []

-- how many replies, by their statuses
abbrev pub replied_tokens : Replied → List Token
replied_tokens replied =
    key (codes "replies") ∷ begin_object ∷ count_tokens (codes "200") replied.ok
    ++ count_tokens (codes "302") replied.found
    ++ count_tokens (codes "400") replied.bad_request
    ++ count_tokens (codes "401") replied.unauthorized
    ++ count_tokens (codes "403") replied.forbidden
    ++ count_tokens (codes "404") replied.not_found
    ++ count_tokens (codes "405") replied.not_allowed
    ++ count_tokens (codes "503") replied.unavailable ++ end_object ∷ []

-- how many 503s, by what was wanting
abbrev pub wanted_tokens : Wanted → List Token
wanted_tokens wanted =
    key (codes "unavailable") ∷ begin_object ∷ count_tokens (codes "memory") wanted.memory
    ++ count_tokens (codes "store_full") wanted.store_room
    ++ count_tokens (codes "client_full") wanted.client_room
    ++ count_tokens (codes "drawn_twice") wanted.fresh_draw
    ++ count_tokens (codes "consents_full") wanted.consent_room ++ end_object ∷ []

-- how much is kept
abbrev pub kept_tokens : Report → List Token
kept_tokens report =
    count_tokens (codes "records") report.records ++ count_tokens (codes "consents") report.consents ++ count_tokens (codes "hooks") report.hooks

-- how many bytes the file of the state has, where there is one
abbrev pub state_tokens : Option ℕ → List Token
state_tokens None = []
state_tokens (Some bytes) = count_tokens (codes "state_bytes") bytes

-- the whole line: when it is and for how long the server has served, and what follows above
abbrev pub report_tokens : Report → List Token
report_tokens report =
    begin_object ∷ count_tokens (codes "moment") report.moment
    ++ count_tokens (codes "seconds") report.seconds
    ++ connections_tokens report
    ++ asked_tokens report.tally.asked
    ++ replied_tokens report.tally.replied
    ++ wanted_tokens report.tally.wanted
    ++ count_tokens (codes "denied_by_hooks") report.tally.denied
    ++ kept_tokens report
    ++ state_tokens report.state
    ++ end_object ∷ []
