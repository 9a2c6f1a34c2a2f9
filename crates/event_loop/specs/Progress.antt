-- How far the edge was led.
use Rattle.std.specs.Prelude.{ℕ, [], ◌∷◌, Option}
use Rattle.event_loop.specs.Names.{ChaCha, Hosting, Connection, Happening, connection_at, SeenEdge, GoesOn, Journey, Reached, led_on}
use Rattle.telling.specs.Audience.{Audience}

-- an edge, the generator of its draws, who is told of what it answers, and the journey that led to it
pub record Progress (H : Type 0) : Type 0 where
  pub edge : SeenEdge H
  pub generator : ChaCha
  pub audience : Audience
  pub journey : Journey H

-- a connection, as the edge knows it
abbrev pub known : {H : Type 0} → Progress H → ℕ → Option Connection
known progress k = connection_at progress.journey.world.connections k

-- an event happened
abbrev pub led : {H : Type 0} {hosting : Hosting H} {edge : SeenEdge H} {e : Happening} (progress : Progress H) → GoesOn hosting edge progress.journey e → Progress H
led {H} {hosting} {edge} {e} progress on = record progress { edge = edge; journey = led_on progress.journey (e ∷ []) on.world }

-- the journey leads to a world that the edge shows
abbrev pub IsReached : {H : Type 0} → Hosting H → Progress H → Type 0
IsReached hosting progress = Reached hosting progress.edge progress.journey
