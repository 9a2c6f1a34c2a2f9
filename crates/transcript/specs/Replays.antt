-- What a transcript is answered.
use Rattle.std.specs.Prelude.{◌≡◌, ◌≢◌, ◌⊎◌, ◌+◌, ◌++◌, ⊤, ℕ, List, ◌∷◌, codes, length, Ok, Err}
use Rattle.std.specs.Fmt.{decimal}
use Rattle.std.specs.List.{flat_map}
use Rattle.hook_host.specs.declared.host.HookHost.{Ghosts as Hosting}
use Rattle.clients.specs.Registry.{registry_in}
use Rattle.clients.specs.RegistryRecord.{RegistryRecord}
use Rattle.registry_json.specs.declared.fault.ConfigFault.TheVariants as config
use Rattle.endpoints.specs.Server.{Outset, outset_of}
use Rattle.http_edge.specs.Edges.{SeenEdge}
use Rattle.http_edge.specs.Schedule.{World, Happening, Run, first_world}
use Rattle.transcript.specs.Lines.{transcript_lines, HandsIn}
use Rattle.transcript.specs.Events.{StandFor}
use Rattle.transcript.specs.Called.{LinesAreMade}
use Rattle.transcript.specs.Faults.{IsLineFault}
use Rattle.transcript.specs.declared.fault.ReplayFault.{ReplayFault}
use Rattle.transcript.specs.declared.fault.ReplayFault.TheVariants.{Config, BadLine, Refused, Memory}

-- how the output of a connection is printed: the connection's number and how many bytes there are, and then the bytes
abbrev pub printed : ℕ → List ℕ → List ℕ
printed c output = codes "connection " ++ decimal c ++ codes " " ++ decimal (length output) ++ codes "\n" ++ output ++ codes "\n"

-- all that went to all connections, in the order of their opening
abbrev pub printed_all : World → List ℕ
printed_all world = flat_map (λ k. printed k.number k.output) world.connections

-- the first line of a text hands in JSON text, and these lines follow
pub record BeginsWithConfig (text json : List ℕ) (later : List (List ℕ)) : Type 0 where
  pub first : List ℕ
  pub lines_are : transcript_lines text ≡ first ∷ later
  pub hands_in : HandsIn first json

-- no line hands in JSON text before all others
abbrev pub HasNoConfig : List ℕ → Type 0
HasNoConfig text = (json : List ℕ) (later : List (List ℕ)) → BeginsWithConfig text json later → ⊥

-- the first line of a text hands in this registry, and these lines follow
pub record Configures (text : List ℕ) (rules : RegistryRecord) (later : List (List ℕ)) : Type 0 where
  pub json : List ℕ
  pub begins : BeginsWithConfig text json later
  pub registry : registry_in json ≡ Ok rules

-- the events that lines stand for are accepted one after the other, and lead to this world
pub record LeadTo {H : Type 0} (hosting : Hosting H) (outset : Outset H) (lines : List (List ℕ)) (world : World) : Type 0 where
  pub schedule : List Happening
  pub stand_for : StandFor lines schedule
  pub run : Run hosting outset first_world schedule world

-- Lines are answered by all that went to all connections, after the last line: the calls that they state were made, none was
-- refused, and the events that they stand for lead to the world of those calls.
pub record IsOutputOfLines {H : Type 0} (hosting : Hosting H) (outset : Outset H) (lines : List (List ℕ)) (output : List ℕ) : Type 0 where
  pub edge : SeenEdge H
  pub made : LinesAreMade hosting outset lines edge
  pub lead : LeadTo hosting outset lines made.made.journey.world
  pub output_is : output ≡ printed_all made.made.journey.world

-- one of the lines behind the first has a fault, and those before it are accepted
pub record Stops {H : Type 0} (hosting : Hosting H) (outset : Outset H) (lines : List (List ℕ)) (fault : ReplayFault) : Type 0 where
  pub before : List (List ℕ)
  pub line : List ℕ
  pub behind : List (List ℕ)
  pub lines_are : lines ≡ before ++ line ∷ behind
  pub world : World
  pub lead : LeadTo hosting outset before world
  pub fault_is : IsLineFault world.connections (length before + 2) line fault

-- a transcript's answer
pub record IsReplay {H : Type 0} (hosting : Hosting H) (first : H) (text output : List ℕ) : Type 0 where
  pub rules : RegistryRecord
  pub later : List (List ℕ)
  pub configures : Configures text rules later
  pub answer : IsOutputOfLines hosting (outset_of rules first) later output

-- a transcript stops behind its first line
pub record StopsLater {H : Type 0} (hosting : Hosting H) (first : H) (text : List ℕ) (fault : ReplayFault) : Type 0 where
  pub rules : RegistryRecord
  pub later : List (List ℕ)
  pub configures : Configures text rules later
  pub stops : Stops hosting (outset_of rules first) later fault

-- why a transcript has no answer
abbrev pub IsReplayFault : {H : Type 0} → Hosting H → H → List ℕ → ReplayFault → Type 0
IsReplayFault hosting first text (Config fault) =
    (fault ≢ config.Memory) × (json : List ℕ) × (later : List (List ℕ)) × BeginsWithConfig text json later × (registry_in json ≡ Err fault)
IsReplayFault hosting first text (BadLine line) = ((line ≡ 1) × HasNoConfig text) ⊎ StopsLater hosting first text (BadLine line)
IsReplayFault hosting first text (Refused line fault) = StopsLater hosting first text (Refused line fault)
IsReplayFault hosting first text Memory = ⊤
