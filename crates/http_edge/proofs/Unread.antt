-- A request that wants no draws reads none.
use Rattle.std.proofs.Common.{◌≡◌, ◌∙◌, ℕ, List, Bool, true, false, Some, codes, refl, arith}
use Rattle.http_edge.proofs.Names.{bytes_eq, Hosting, find-passes, Draws, Asked, says_with, request_outcome, Answerer, AnsweredRequest, IsOutcomeOfRequest, wants_draws}
use Rattle.std.specs.Prelude.{Option}
use Rattle.messages.specs.Target.{path_of}
use Rattle.answers.specs.Setting.{Setting}
use Rattle.endpoints.specs.Telling.{request_told}
use Rattle.hook_host.specs.Verdicts.{Verdict}
use Rattle.hook_record.specs.declared.Ask.{Ask}
use Rattle.answers.specs.declared.endpoint.Endpoint.{Endpoint}
use Rattle.answers.specs.declared.endpoint.Endpoint.TheVariants.{Authorize, IssueToken}
use Rattle.answers.specs.declared.endpoint.TheConstants.{ENDPOINTS}
use Rattle.answers.specs.Paths.{endpoint_at, path_at}

-- the endpoint has the path
has_path : (path : List ℕ) (endpoint : Endpoint) → endpoint_at path ≡ Some endpoint → bytes_eq path (path_at endpoint) ≡ true
has_path path endpoint found = find-passes (λ e. bytes_eq path (path_at e)) ENDPOINTS endpoint found

-- the outcome is the same with any draws
same_outcome : (endpoint : Option Endpoint) (asked : Asked) (refused : Bool) (setting : Setting) (draws : Draws) → endpoint_at (path_of asked.target) ≡ endpoint → wants_draws asked ≡ false →
    request_outcome refused setting asked ≡ request_outcome refused (record setting { draws = draws }) asked
same_outcome (Some Authorize) asked refused setting draws found none =
    let path = has_path (path_of asked.target) Authorize found in
    let other : bytes_eq asked.method (codes "GET") ≡ false = grind (arith, none, path) in rw (found, other) refl
same_outcome (Some IssueToken) asked refused setting draws found none =
    let path = has_path (path_of asked.target) IssueToken found in
    let other : bytes_eq asked.method (codes "POST") ≡ false = grind (arith, none, path) in rw (found, other) refl
same_outcome endpoint asked refused setting draws found none = rw found refl

-- and so is what is told of it
same_told : (endpoint : Option Endpoint) (asked : Asked) (refused : Bool) (verdicts : Ask → List Verdict) (setting : Setting) (draws : Draws) → endpoint_at (path_of asked.target) ≡ endpoint → wants_draws asked ≡ false →
    request_told refused verdicts setting asked ≡ request_told refused verdicts (record setting { draws = draws }) asked
same_told (Some Authorize) asked refused verdicts setting draws found none =
    let path = has_path (path_of asked.target) Authorize found in
    let other : bytes_eq asked.method (codes "GET") ≡ false = grind (arith, none, path) in rw (found, other) refl
same_told (Some IssueToken) asked refused verdicts setting draws found none =
    let path = has_path (path_of asked.target) IssueToken found in
    let other : bytes_eq asked.method (codes "POST") ≡ false = grind (arith, none, path) in rw (found, other) refl
same_told endpoint asked refused verdicts setting draws found none = rw found refl

pub unread : {H : Type 0} (hosting : Hosting H) (by : Answerer H) (request : AnsweredRequest) (after : H) (draws : Draws) → wants_draws request.asked ≡ false →
    IsOutcomeOfRequest hosting by request after → IsOutcomeOfRequest hosting by (record request { draws = draws }) after
unread hosting by request after draws none o =
    let setting : Setting = record {
      rules = by.rules;
      history = by.history;
      host = says_with hosting by.host request.mishap.fault;
      moment = by.moment;
      draws = request.draws;
    } in
    let same = same_outcome (endpoint_at (path_of request.asked.target)) request.asked request.mishap.refused setting draws refl none in
    let told = same_told (endpoint_at (path_of request.asked.target)) request.asked request.mishap.refused (hosting.verdicts by.host) setting draws refl none in
    record { fault = o.fault; changes = o.changes; outcome_is = o.outcome_is ∙ same; told_is = o.told_is ∙ told }
