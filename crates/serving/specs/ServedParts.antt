-- Beside Served: only the contracts of this crate's own parts and their proofs cite this, no public clause.
use Rattle.std.specs.Prelude.{◌+◌, ◌<◌, ℕ, Option, Some, None, Result, Ok, Err}
use Rattle.rand_chacha.specs.ChaCha.{ChaCha}
use Rattle.http_edge.specs.Edges.{SeenEdge}
use Rattle.serving.specs.declared.fault.ServeFault.{ServeFault}
use Rattle.serving.specs.declared.serve.Heard.{Heard}
use Rattle.serving.specs.declared.serve.Heard.TheVariants as Hears
use Rattle.serving.specs.declared.serve.Over.{Over}
use Rattle.serving.specs.declared.serve.Over.TheVariants as Overs
use Rattle.serving.specs.Served.{ServingScene, Stage, StreamService, Runs, Reading, Finished, Served, pieces_limit, serving_scene}

-- whatever led to the one scene, steps lead on to the other
abbrev pub Goes : {H S C : Type 0} → StreamService H S → (C → Option ℕ → C → Type 0) → ServingScene H S C → ServingScene H S C → Type 0
Goes t tells old new = (first : ServingScene _ _ _) → Runs t tells first old → Runs t tells first new

-- what a connection is served with
pub record Serving (H S C : Type 0) : Type 0 where
  pub edge : SeenEdge H
  pub stream : S
  pub clock : C
  pub generator : ChaCha

abbrev pub serving : {H S C : Type 0} → SeenEdge H → S → C → ChaCha → Serving H S C
serving edge stream clock g = record { edge = edge; stream = stream; clock = clock; generator = g }

abbrev pub scene_at : {H S C : Type 0} → Stage → Serving H S C → ServingScene H S C
scene_at stage s = serving_scene stage s.edge s.stream s.clock s.generator

-- the stage behind a read
abbrev pub stage_heard : ℕ → Result Heard ServeFault → Stage
stage_heard n (Ok Hears.Piece) = Reading (n + 1)
stage_heard n (Ok Hears.End) = Finished
stage_heard n (Err fault) = Served (Some fault)

-- whichever piece it is, a read with this answer leads on
abbrev pub GoesByRead : {H S C : Type 0} → StreamService H S → (C → Option ℕ → C → Type 0) → Serving H S C → Result Heard ServeFault → Serving H S C → Type 0
GoesByRead t tells old result new =
    (n : ℕ) → n < pieces_limit → Goes t tells (scene_at (Reading n) old) (scene_at (stage_heard n result) new)

-- the stage behind all reads
abbrev pub stage_over : Result Over ServeFault → Stage
stage_over (Ok Overs.Closed) = Served None
stage_over (Ok Overs.Finished) = Finished
stage_over (Err fault) = Served (Some fault)
