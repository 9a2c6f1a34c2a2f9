-- What is told of a request that was answered, whatever has happened before.
use Rattle.std.specs.Prelude.{◌≡◌, ℕ, List, Bool, not, bytes_eq, Option, Some, None, if◌then◌else◌, max}
use Rattle.answers.specs.Paths.{endpoint_at, method_at}
use Rattle.hook_record.specs.declared.Ask.{Ask}
use Rattle.hook_host.specs.Verdicts.{Verdict}
use Rattle.endpoints.specs.Names.{HookFault, Hosting, Event, Asked, path_of, Setting, Endpoint}
use Rattle.endpoints.specs.Hosts.{IsHostFault, says_with}
use Rattle.endpoints.specs.Replies.{outcome_at, request_outcome, hook_change}
use Rattle.endpoints.specs.Server.{SeenServer, Outset, FitsServer, IsStep}
use Rattle.endpoints.specs.Steps.{Arrival, Steps}
pub use Rattle.endpoints.specs.Answered.{Answers}
use Rattle.telling.specs.Interests.{wanted_of}
use Rattle.telling.specs.Telling.{bare_told, told_of}
use Rattle.telling.specs.declared.interest.Interest.{Interest}
use Rattle.telling.specs.declared.telling.Stepped.{Stepped}
use Rattle.telling.specs.declared.told.Told.{Told}

-- at the endpoint of the path: where the method is another, or memory was refused, nothing but that
abbrev pub told_at : Bool → (Ask → List Verdict) → Setting → Asked → Option Endpoint → Told
told_at refused verdicts setting asked None = bare_told setting.moment None 404
told_at refused verdicts setting asked (Some endpoint) =
    if not (bytes_eq asked.method (method_at endpoint)) then bare_told setting.moment (Some endpoint) 405
    else (if refused then bare_told setting.moment (Some endpoint) 503
    else told_of verdicts setting endpoint asked (outcome_at endpoint setting asked))

-- what is told of any request
abbrev pub request_told : Bool → (Ask → List Verdict) → Setting → Asked → Told
request_told refused verdicts setting asked = told_at refused verdicts setting asked (endpoint_at (path_of asked.target))

-- a request as it comes, and of which requests it is to be told
pub record Heeded : Type 0 where
  pub arrival : Arrival
  pub interest : Interest

abbrev pub heeded : Arrival → Interest → Heeded
heeded arrival interest = record { arrival = arrival; interest = interest }

-- What a request does, as `Steps` has it, and what is told of it, where that is wanted, and else nothing: by the same of the
-- host's faults, and by the same refusal of memory.
abbrev pub StepsTelling : {H : Type 0} → Hosting H → SeenServer H → Heeded → Stepped → SeenServer H → Type 0
StepsTelling {H = H} hosting server heeded stepped server' =
    let arrival : Arrival = heeded.arrival in
    (outset : Outset H) (history : List Event) (m : ℕ) → FitsServer hosting server outset history m →
    let setting : Option HookFault → Setting = λ fault. record {
      rules = outset.rules;
      history = history;
      host = says_with hosting server.host fault;
      moment = max m arrival.moment;
      draws = arrival.draws;
    } in
    (refused : Bool) × (fault : Option HookFault) × IsHostFault hosting server.host (hook_change arrival.asked) fault
    × IsStep hosting (record { server = server; outset = outset; history = history; moment = max m arrival.moment })
    (request_outcome refused (setting fault) arrival.asked) stepped.reply server'
    × (stepped.told ≡ wanted_of heeded.interest (request_told refused (hosting.verdicts server.host) (setting fault) arrival.asked))

-- the step alone
pub steps_of : {H : Type 0} (hosting : Hosting H) (server : SeenServer H) (heeded : Heeded) (stepped : Stepped) (new : SeenServer H) →
    StepsTelling hosting server heeded stepped new → Steps hosting server heeded.arrival stepped.reply new
steps_of hosting server heeded stepped new telling outset history m fits =
    let it = telling outset history m fits in
    (it.0, it.1, it.2, it.3)
