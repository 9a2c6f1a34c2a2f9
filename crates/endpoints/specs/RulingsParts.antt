-- Beside Rulings: only the contracts of this crate's own parts and their proofs cite this, no public clause.
use Rattle.std.specs.Prelude.{◌≡◌, List, Option, None, Result, Ok, Err}
use Rattle.endpoints.specs.Names.{Event, HookFault, Hosting, Decides, Halt, Refuse, NoMemory, Reading, in_writing, refuse, IsShortReply}
use Rattle.telling.specs.Interests.{wanted_of}
use Rattle.telling.specs.Sought.{told_sought, upshot_of}
use Rattle.telling.specs.Telling.{Shown, shown_of, told_of}
use Rattle.telling.specs.declared.interest.Interest.{Interest}
use Rattle.telling.specs.declared.telling.Stepped.{Stepped}
use Rattle.telling.specs.declared.telling.Upshot.{Upshot}
use Rattle.telling.specs.declared.told.Told.{Told}
use Rattle.answers.specs.declared.decision.Decision.{Decision}
use Rattle.endpoints.specs.declared.reading.Reading.TheVariants.{InstallHook, RemoveHook}
use Rattle.endpoints.specs.HookPaths.{hook_change_at}
use Rattle.endpoints.specs.Hosts.{IsHostFault}
use Rattle.endpoints.specs.Making.{IsSame}
use Rattle.endpoints.specs.Reading.{IsRequestRead}
use Rattle.endpoints.specs.Server.{SeenServer, Before, IsStep, outset_of}
use Rattle.endpoints.specs.Rulings.{Asking, FitsNow, ReadRequest, asking_of, setting_now, comes_to}

-- what was read asks for no change of the hooks
abbrev pub IsAlone : Reading → Type 0
IsAlone (InstallHook params) = ⊥
IsAlone (RemoveHook params) = ⊥
IsAlone _ = Unit {0}

abbrev pub RulesAlone : {H : Type 0} → Hosting H → SeenServer H → Asking → Result Decision Halt → Type 0
RulesAlone {H = H} hosting server asking result =
    (first : H) (history : List Event) → FitsNow hosting server first history →
    Decides (setting_now hosting server history asking.draws None) result (comes_to hosting server history asking None)

-- where that was read
abbrev pub RulesReadAlone : {H : Type 0} → Hosting H → SeenServer H → ReadRequest → Result Decision Halt → Type 0
RulesReadAlone hosting server request result =
    IsAlone request.reading → IsRequestRead server.rules request.asked request.reading →
    RulesAlone hosting server (asking_of request.asked request.reading request.draws) result

-- a request at an endpoint, and of which requests it is to be told
pub record Heeding : Type 0 where
  pub asking : Asking
  pub interest : Interest

abbrev pub heeding : Asking → Interest → Heeding
heeding asking interest = record { asking = asking; interest = interest }

-- what the request shows
abbrev pub shown_now : {H : Type 0} → Hosting H → SeenServer H → List Event → Asking → Option HookFault → Shown
shown_now hosting server history asking fault =
    shown_of (hosting.verdicts server.host) (setting_now hosting server history asking.draws fault) asking.endpoint asking.asked

-- whatever fault the host has, so much is told by what the request shows and by what came of it
abbrev pub IsToldBy : {H : Type 0} → Hosting H → SeenServer H → Heeding → Upshot → Option Told → Type 0
IsToldBy {H = H} hosting server heeding upshot told =
    (first : H) (history : List Event) (fault : Option HookFault) → FitsNow hosting server first history →
    told ≡ told_sought heeding.interest server.greatest heeding.asking.endpoint (shown_now hosting server history heeding.asking fault) upshot

-- the reply tells of the error, and is short, and so much is told; where memory was refused there is none
abbrev pub EndsBy : {H : Type 0} → Hosting H → SeenServer H → Heeding → Halt → Stepped → Type 0
EndsBy hosting server heeding (Refuse error) stepped =
    (stepped.reply ≡ in_writing (refuse error).reply) × IsShortReply stepped.reply
    × IsToldBy hosting server heeding (upshot_of (refuse error)) stepped.told
EndsBy hosting server heeding NoMemory stepped = ⊥

-- what is before an answer: the server, under its own rules and at its own greatest moment
abbrev pub before_now : {H : Type 0} → SeenServer H → H → List Event → Before H
before_now server first history = record { server = server; outset = outset_of server.rules first; history = history; moment = server.greatest }

-- what is told of what the request comes to
abbrev pub told_then : {H : Type 0} → Hosting H → SeenServer H → List Event → Asking → Option HookFault → Told
told_then hosting server history asking fault =
    told_of (hosting.verdicts server.host) (setting_now hosting server history asking.draws fault) asking.endpoint asking.asked
    (comes_to hosting server history asking fault)

-- The host has one of its own faults for the change that is asked for, or none. By that the reply is what the request
-- comes to, its changes are made, and so much is told, where that is wanted. Where memory is refused, nothing is made.
abbrev pub AnswersRequest : {H E : Type 0} → Hosting H → SeenServer H → Heeding → Result Stepped E → SeenServer H → Type 0
AnswersRequest {H = H} hosting old heeding (Ok stepped) new =
    let asking : Asking = heeding.asking in
    (first : H) (history : List Event) → FitsNow hosting old first history →
    (fault : Option HookFault) × IsHostFault hosting old.host (hook_change_at asking.endpoint asking.asked) fault
    × IsStep hosting (before_now old first history) (comes_to hosting old history asking fault) stepped.reply new
    × (stepped.told ≡ wanted_of heeding.interest (told_then hosting old history asking fault))
AnswersRequest hosting old heeding (Err _) new = IsSame hosting old new
