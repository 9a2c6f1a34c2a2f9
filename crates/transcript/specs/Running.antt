-- Lines that are read, and run as calls over an edge.
use Rattle.std.specs.Prelude.{◌≡◌, ◌≢◌, ◌+◌, ◌++◌, ℕ, List, [], ◌∷◌, Option, None, Some, length}
use Rattle.std.specs.List.{flat_map}
use Rattle.headline.specs.declared.call.Upshot.{Upshot}
use Rattle.headline.specs.declared.call.Upshot.TheVariants.{Refused}
use Rattle.hook_host.specs.declared.host.HookHost.{Ghosts as Hosting}
use Rattle.endpoints.specs.Server.{Outset}
use Rattle.http_edge.specs.Lanes.{SeenLane}
use Rattle.http_edge.specs.declared.fault.EdgeFault.{EdgeFault}
use Rattle.transcript.specs.Lines.{Statement, States}
use Rattle.transcript.specs.Called.{AreDone, StateEach}
use Rattle.transcript.specs.Faults.{of_event}
use Rattle.transcript.specs.Replays.{printed, Stops}
use Rattle.transcript.specs.declared.fault.ReplayFault.{ReplayFault}
use Rattle.transcript.specs.declared.fault.ReplayFault.TheVariants.{Memory}

-- behind those that state something there is none; or one with this number, counted from the line before them, states nothing
abbrev pub EndsAt : List Statement → List (List ℕ) → Option ℕ → Type 0
EndsAt statements rest None = rest ≡ []
EndsAt statements rest (Some number) =
    (line : List ℕ) × (behind : List (List ℕ)) × (rest ≡ line ∷ behind) × (number ≡ length statements + 2)
    × ((statement : Statement) → States line statement → ⊥)

-- lines state these statements, up to the first that states nothing
pub record HaveStated (lines : List (List ℕ)) (statements : List Statement) (bad : Option ℕ) : Type 0 where
  pub front : List (List ℕ)
  pub rest : List (List ℕ)
  pub are : lines ≡ front ++ rest
  pub each : StateEach front statements
  pub end : EndsAt statements rest bad

-- the first of them that was refused is told as its line's fault
pub record IsFirstRefusal (upshots : List Upshot) (fault : ReplayFault) : Type 0 where
  pub before : List Upshot
  pub cause : EdgeFault
  pub behind : List Upshot
  pub are : upshots ≡ before ++ Refused cause ∷ behind
  pub done : AreDone before
  pub fault_is : fault ≡ of_event (length before + 2) cause

-- one of the lines has this fault, unless memory was refused
abbrev pub LinesFail : {H : Type 0} → Hosting H → Outset H → List (List ℕ) → ReplayFault → Type 0
LinesFail hosting outset lines fault = fault ≢ Memory → Stops hosting outset lines fault

-- the output of all these connections
abbrev pub printed_lanes : List SeenLane → List ℕ
printed_lanes lanes = flat_map (λ lane. printed lane.number lane.output) lanes
