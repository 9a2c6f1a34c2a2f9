-- The calls that lines state, and that they were made on a new edge.
use Rattle.std.specs.Prelude.{◌≡◌, ⊤, ℕ, List, [], ◌∷◌}
use Rattle.headline.specs.Headline.{IsMade}
use Rattle.headline.specs.declared.call.EdgeCall.{EdgeCall}
use Rattle.headline.specs.declared.call.EdgeCall.TheVariants.{Event}
use Rattle.headline.specs.declared.call.Upshot.{Upshot}
use Rattle.headline.specs.declared.call.Upshot.TheVariants.{Done, Refused}
use Rattle.hook_host.specs.declared.host.HookHost.{Ghosts as Hosting}
use Rattle.endpoints.specs.Server.{Outset}
use Rattle.http_edge.specs.Edges.{SeenEdge}
use Rattle.http_edge.specs.declared.event.Event.TheVariants as event
use Rattle.transcript.specs.Lines.{Statement, Opens, Brings, Ends, States}

-- each line states the statement at its place
abbrev pub StateEach : List (List ℕ) → List Statement → Type 0
StateEach [] [] = ⊤
StateEach (line ∷ lines) (statement ∷ statements) = States line statement × StateEach lines statements
StateEach lines statements = ⊥

-- the call is the statement's event
abbrev pub IsCallOf : Statement → EdgeCall → Type 0
IsCallOf (Opens c) (Event (event.Open d)) = d ≡ c
IsCallOf (Brings c moment draws piece) (Event (event.Bytes d p m ds)) = (d ≡ c) × (p.now ≡ piece) × (m ≡ moment) × (ds.now ≡ draws)
IsCallOf (Ends c) (Event (event.End d)) = d ≡ c
IsCallOf statement call = ⊥

-- each call is that of the statement at its place
abbrev pub AreCalls : List Statement → List EdgeCall → Type 0
AreCalls [] [] = ⊤
AreCalls (statement ∷ statements) (call ∷ calls) = IsCallOf statement call × AreCalls statements calls
AreCalls statements calls = ⊥

-- none was refused
abbrev pub AreDone : List Upshot → Type 0
AreDone [] = ⊤
AreDone (Done bytes ∷ upshots) = AreDone upshots
AreDone (Refused fault ∷ upshots) = ⊥

-- the calls that lines state were made on a new edge, in their order and no others, none was refused, and they left this edge
pub record LinesAreMade {H : Type 0} (hosting : Hosting H) (outset : Outset H) (lines : List (List ℕ)) (edge : SeenEdge H) : Type 0 where
  pub statements : List Statement
  pub each : StateEach lines statements
  pub calls : List EdgeCall
  pub are : AreCalls statements calls
  pub upshots : List Upshot
  pub done : AreDone upshots
  pub made : IsMade hosting outset calls upshots edge
