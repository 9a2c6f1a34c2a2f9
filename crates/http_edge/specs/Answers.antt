-- Requests that are answered one after another.
use Rattle.std.specs.Prelude.{◌≡◌, ◌+◌, ℕ, List, [], ◌∷◌, Bool, Option, map, length}
use Rattle.http_edge.specs.Names.{Hosting, Change, with_changes, Draws, Asked, in_writing, reply_bytes, Outset, Message, asked_of_message}
use Rattle.std.specs.List.{flat_map}
use Rattle.clients.specs.RegistryRecord.{RegistryRecord}
use Rattle.hook_host.specs.declared.fault.HookFault.{HookFault}
use Rattle.consent.specs.History.{Event}
use Rattle.answers.specs.Outcomes.{Outcome}
use Rattle.answers.specs.Setting.{Setting}
use Rattle.endpoints.specs.Hosts.{HostRun, IsHostFault, says_with}
use Rattle.endpoints.specs.Replies.{request_outcome, hook_change}
use Rattle.endpoints.specs.Telling.{request_told}
use Rattle.telling.specs.declared.told.Told.{Told}

-- what may go wrong in the answer to a request: whether memory was refused for it at its endpoint, and the fault, if any, that the host had
-- for the change that it asks for
pub record Mishap : Type 0 where
  pub refused : Bool
  pub fault : Option HookFault

-- a request that was answered: what it asks, the draws of what its reply may give, what was free, its outcome, and what is
-- told of it
pub record AnsweredRequest : Type 0 where
  pub asked : Asked
  pub draws : Draws
  pub mishap : Mishap
  pub outcome : Outcome
  pub told : Told

-- what answers requests: the rules, what has happened under them, the host that came of this, and the moment
pub record Answerer (H : Type 0) : Type 0 where
  pub rules : RegistryRecord
  pub history : List Event
  pub host : H
  pub moment : ℕ

abbrev pub answerer : {H : Type 0} → Outset H → List Event → H → ℕ → Answerer H
answerer outset history host m = record { rules = outset.rules; history = history; host = host; moment = m }

-- what answers the next request, once these changes have left this host
abbrev pub next_answerer : {H : Type 0} → Answerer H → List Change → H → Answerer H
next_answerer by changes after = record by { history = with_changes by.history by.moment changes; host = after }

-- what the request is decided by
abbrev pub setting_by : {H : Type 0} → Hosting H → Answerer H → AnsweredRequest → Setting
setting_by hosting by request = record {
  rules = by.rules;
  history = by.history;
  host = says_with hosting by.host request.mishap.fault;
  moment = by.moment;
  draws = request.draws;
}

-- The request has its outcome by what the host says, and the outcome's changes leave the other host: where it cannot make a
-- hook's change, the outcome has none.
pub record IsOutcomeOfRequest {H : Type 0} (hosting : Hosting H) (by : Answerer H) (request : AnsweredRequest) (after : H) : Type 0 where
  pub fault : IsHostFault hosting by.host (hook_change request.asked) request.mishap.fault
  pub outcome_is : request.outcome ≡ request_outcome request.mishap.refused (setting_by hosting by request) request.asked
  pub told_is : request.told ≡ request_told request.mishap.refused (hosting.verdicts by.host) (setting_by hosting by request) request.asked
  pub changes : HostRun hosting by.host (with_changes [] by.moment request.outcome.changes) after

-- the requests have their outcomes, each by the history and the host that the one before left, and the last leaves the other host
abbrev pub AreAnswered : {H : Type 0} → Hosting H → Answerer H → List AnsweredRequest → H → Type 0
AreAnswered hosting by [] after = after ≡ by.host
AreAnswered {H = H} hosting by (request ∷ requests) after =
    (between : H)
    × IsOutcomeOfRequest hosting by request between
    × AreAnswered hosting (next_answerer by request.outcome.changes between) requests after

-- the requests ask what the messages ask, in their order
abbrev pub AreAskedBy : List Message → List AnsweredRequest → Type 0
AreAskedBy messages requests = map (λ r. r.asked) requests ≡ map asked_of_message messages

-- their draws, and their mishaps
abbrev pub draws_in : List AnsweredRequest → List Draws
draws_in requests = map (λ r. r.draws) requests

abbrev pub mishaps_in : List AnsweredRequest → List Mishap
mishaps_in requests = map (λ r. r.mishap) requests

-- what is told of them, in their order
abbrev pub tellings_of : List AnsweredRequest → List Told
tellings_of requests = map (λ r. r.told) requests

-- all that the requests change
abbrev pub changes_made : List AnsweredRequest → List Change
changes_made requests = flat_map (λ r. r.outcome.changes) requests

-- the bytes of all their replies
abbrev pub replies_of : List AnsweredRequest → List ℕ
replies_of requests = flat_map (λ r. reply_bytes (in_writing r.outcome.reply)) requests

-- how many bytes there are up to the end of each of these replies, behind so many others
abbrev pub ends_of : ℕ → List AnsweredRequest → List ℕ
ends_of start [] = []
ends_of start (r ∷ requests) = (start + length (reply_bytes (in_writing r.outcome.reply))) ∷ ends_of (start + length (reply_bytes (in_writing r.outcome.reply))) requests
