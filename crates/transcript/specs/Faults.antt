-- Why a transcript has no answer.
use Rattle.std.specs.Prelude.{◌≡◌, ◌≢◌, ⊤, ℕ, List}
use Rattle.registry_json.specs.declared.fault.ConfigFault.{ConfigFault}
use Rattle.registry_json.specs.declared.fault.ConfigFault.TheVariants as config
use Rattle.http_edge.specs.Schedule.{Connection}
use Rattle.http_edge.specs.declared.fault.EdgeFault.{EdgeFault}
use Rattle.http_edge.specs.declared.fault.EdgeFault.TheVariants as edge
use Rattle.transcript.specs.Lines.{Statement, States}
use Rattle.transcript.specs.Events.{IsStatementRefusal}
use Rattle.transcript.specs.declared.fault.ReplayFault.{ReplayFault}
use Rattle.transcript.specs.declared.fault.ReplayFault.TheVariants.{Config, BadLine, Refused, Memory}

-- want of memory is told alike wherever it comes
abbrev pub of_config : ConfigFault → ReplayFault
of_config config.Memory = Memory
of_config fault = Config fault

abbrev pub of_event : ℕ → EdgeFault → ReplayFault
of_event line edge.Memory = Memory
of_event line fault = Refused line fault

-- a line states what comes, and its event is refused where these connections are, not for memory
pub record IsLineRefused (connections : List Connection) (line : List ℕ) (fault : EdgeFault) : Type 0 where
  pub statement : Statement
  pub states : States line statement
  pub refusal : IsStatementRefusal fault connections statement
  pub not_memory : fault ≢ edge.Memory

-- the fault of the line with this number: it states nothing, or its event is refused
abbrev pub IsLineFault : List Connection → ℕ → List ℕ → ReplayFault → Type 0
IsLineFault connections number line (BadLine n) = (n ≡ number) × ((statement : Statement) → States line statement → ⊥)
IsLineFault connections number line (Refused n fault) = (n ≡ number) × IsLineRefused connections line fault
IsLineFault connections number line Memory = ⊤
IsLineFault connections number line (Config fault) = ⊥
