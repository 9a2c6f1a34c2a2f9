-- What the server decides, and what it answers by that.
use Rattle.std.specs.Prelude.{◌≡◌, List, Option, None, Result, Ok, Err}
use Rattle.endpoints.specs.Names.{as_list, AllFollowAt, Event, HookFault, Hosting, Asked, Draws, Halts, Outcome, Setting, outcome_told, Halt, Endpoint, Reading}
use Rattle.endpoints.specs.declared.ruling.Ruling.{Ruling}
use Rattle.endpoints.specs.Bounded.{AllRightAfter}
use Rattle.endpoints.specs.HookPaths.{hook_change_at}
use Rattle.endpoints.specs.Hosts.{IsHostFault, says_with}
use Rattle.endpoints.specs.Reading.{IsRequestRead, endpoint_of}
use Rattle.endpoints.specs.Replies.{outcome_at}
use Rattle.endpoints.specs.Ruling.{CanMakeAll}
use Rattle.endpoints.specs.Server.{SeenServer, FitsServer, outset_of}

-- a request at an endpoint, with the random bytes of what its reply may give
pub record Asking : Type 0 where
  pub endpoint : Endpoint
  pub asked : Asked
  pub draws : Draws

abbrev pub asking_of : Asked → Reading → Draws → Asking
asking_of asked reading draws = record { endpoint = endpoint_of reading; asked = asked; draws = draws }

-- the server fits the history under its own rules, at its own greatest moment
abbrev pub FitsNow : {H : Type 0} → Hosting H → SeenServer H → H → List Event → Type 0
FitsNow hosting server first history = FitsServer hosting server (outset_of server.rules first) history server.greatest

-- what a decision is taken in, where the host has this fault
abbrev pub setting_now : {H : Type 0} → Hosting H → SeenServer H → List Event → Draws → Option HookFault → Setting
setting_now hosting server history draws fault = record {
  rules = server.rules;
  history = history;
  host = says_with hosting server.host fault;
  moment = server.greatest;
  draws = draws;
}

-- what the request comes to there
abbrev pub comes_to : {H : Type 0} → Hosting H → SeenServer H → List Event → Asking → Option HookFault → Outcome
comes_to hosting server history asking fault =
    outcome_at asking.endpoint (setting_now hosting server history asking.draws fault) asking.asked

-- The ruling is what the request comes to, by one of the host's own faults or none. Its changes may come next, each is
-- right, and the server can make them.
pub record IsRuling {H : Type 0} (hosting : Hosting H) (server : SeenServer H) (history : List Event) (asking : Asking) (ruling : Ruling H) : Type 0 where
  pub fault : Option HookFault
  pub host_has : IsHostFault hosting server.host (hook_change_at asking.endpoint asking.asked) fault
  pub told_is : outcome_told (setting_now hosting server history asking.draws fault) ruling.decision ≡ comes_to hosting server history asking fault
  pub follow : AllFollowAt history server.greatest (comes_to hosting server history asking fault).changes
  pub right : AllRightAfter server.rules history server.greatest (comes_to hosting server history asking fault).changes
  pub hooks : CanMakeAll hosting server.host (as_list ruling.decision.changes) ruling.checked

-- or the request ends with an error, or for want of memory
abbrev pub IsRuled : {H : Type 0} → Hosting H → SeenServer H → List Event → Asking → Result (Ruling H) Halt → Type 0
IsRuled hosting server history asking (Ok ruling) = IsRuling hosting server history asking ruling
IsRuled hosting server history asking (Err halt) = Halts halt (comes_to hosting server history asking None)

-- a request at an endpoint, with the draws of its reply
abbrev pub asking_at : Endpoint → Asked → Draws → Asking
asking_at endpoint asked draws = record { endpoint = endpoint; asked = asked; draws = draws }

-- whatever history the server fits
abbrev pub Rules : {H : Type 0} → Hosting H → SeenServer H → Asking → Result (Ruling H) Halt → Type 0
Rules {H = H} hosting server asking result =
    (first : H) (history : List Event) → FitsNow hosting server first history → IsRuled hosting server history asking result

-- a request, what was read of it, and the draws of what its reply may give
pub record ReadRequest : Type 0 where
  pub asked : Asked
  pub reading : Reading
  pub draws : Draws

abbrev pub read_request : Asked → Reading → Draws → ReadRequest
read_request asked reading draws = record { asked = asked; reading = reading; draws = draws }

-- where that was read of it
abbrev pub RulesRead : {H : Type 0} → Hosting H → SeenServer H → ReadRequest → Result (Ruling H) Halt → Type 0
RulesRead hosting server request result =
    IsRequestRead server.rules request.asked request.reading → Rules hosting server (asking_of request.asked request.reading request.draws) result
