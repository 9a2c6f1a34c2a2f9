-- The edges that a schedule leads to.
use Rattle.std.specs.Prelude.{◌≡◌, ◌≢◌, length, ℕ, List, [], ◌∷◌, ◌++◌, Bool, false, Option, Some, None}
use Rattle.http_edge.specs.Names.{Hosting, Draws, SeenServer, Outset, FitsServer, Notes, Messages, IsBounded}
use Rattle.consent.specs.History.{Event}
use Rattle.http_edge.specs.Answers.{Mishap}
use Rattle.http_edge.specs.Schedule.{World, Connection, Piece, Happening, Came, Resumed, Happens, Run, is_closing_phase, first_world, resumed}
use Rattle.http_edge.specs.Lanes.{ShowsConnections}
use Rattle.http_edge.specs.Edges.{SeenEdge}
use Rattle.http_edge.specs.declared.lane.Phase.TheVariants.{Open}
use Rattle.telling.specs.declared.told.Told.{Told}

-- what has led to a world: what the server began with, all that has happened since, and the world
pub record Journey (H : Type 0) : Type 0 where
  pub outset : Outset H
  pub schedule : List Happening
  pub world : World

-- nothing has happened yet
abbrev pub new_journey : {H : Type 0} → Outset H → Journey H
new_journey outset = record { outset = outset; schedule = []; world = first_world }

-- the server goes on from a history and its greatest moment, and this was kept of it, if anything is kept
abbrev pub resumed_journey : {H : Type 0} → Outset H → List Event → ℕ → Option (List Event) → Journey H
resumed_journey outset history m kept = record { outset = outset; schedule = Resumed history m kept ∷ []; world = resumed history m kept }

-- events more lead to this world
abbrev pub led_on : {H : Type 0} → Journey H → List Happening → World → Journey H
led_on journey events world = record { outset = journey.outset; schedule = journey.schedule ++ events; world = world }

-- The schedule leads to the world, and the edge shows it: its server answers as the world's history says, its host comes
-- from the first one by that history, what it has noted leads to it from the one that was kept last, and the edge keeps of
-- each connection what is known of it. Every token of that history keeps to its client's allowance, its owner's consent and
-- its life.
pub record Reached {H : Type 0} (hosting : Hosting H) (edge : SeenEdge H) (journey : Journey H) : Type 0 where
  pub run : Run hosting journey.outset first_world journey.schedule journey.world
  pub server : FitsServer hosting edge.server journey.outset journey.world.history journey.world.greatest
  pub notes : Notes edge.server journey.world.kept journey.world.history
  pub shows : ShowsConnections edge.lanes journey.world.connections
  pub bounded : IsBounded journey.outset.rules journey.world.history

-- over a server that notes nothing, and to which nothing has happened yet, no event leads to the edge
abbrev pub BeginsOver : {H : Type 0} → Hosting H → SeenServer H → SeenEdge H → Type 0
BeginsOver hosting server edge =
    (outset : Outset _) → FitsServer hosting server outset [] 0 → Notes server None [] → Reached hosting edge (new_journey outset)

-- whatever has happened to the server, and whatever it has noted of that, its going on from there leads to the edge
abbrev pub ResumesOver : {H : Type 0} → Hosting H → SeenServer H → SeenEdge H → Type 0
ResumesOver hosting server edge =
    (outset : Outset _) (history : List Event) (m : ℕ) (kept : Option (List Event)) → FitsServer hosting server outset history m →
    Notes server kept history → Reached hosting edge (resumed_journey outset history m kept)

-- so it is in every world that the edge shows
abbrev pub InEach : {H : Type 0} → Hosting H → SeenEdge H → (World → Type 0) → Type 0
InEach hosting edge fact = (journey : Journey _) → Reached hosting edge journey → fact journey.world

-- one event more leads on to the edge
pub record GoesOn {H : Type 0} (hosting : Hosting H) (edge : SeenEdge H) (journey : Journey H) (e : Happening) : Type 0 where
  pub world : World
  pub happens : Happens hosting journey.outset journey.world e world
  pub reached : Reached hosting edge (led_on journey (e ∷ []) world)

-- wherever the one edge was reached, the event leads to the other
abbrev pub HappeningLeads : {H : Type 0} → Hosting H → SeenEdge H → SeenEdge H → Happening → Type 0
HappeningLeads hosting old new e = (journey : Journey _) → Reached hosting old journey → GoesOn hosting new journey e

-- a piece with some mishaps leads on
pub record PieceGoesOn {H : Type 0} (hosting : Hosting H) (edge : SeenEdge H) (journey : Journey H) (piece : Piece) (draws : List Draws) : Type 0 where
  pub mishaps : List Mishap
  pub closes : Bool
  pub tellings : List Told
  pub on : GoesOn hosting edge journey (Came (record { piece = piece; draws = draws; mishaps = mishaps; closes = closes; tellings = tellings }))

-- wherever the one edge was reached, the piece leads to the other, with some mishaps
abbrev pub PieceLeads : {H : Type 0} → Hosting H → SeenEdge H → SeenEdge H → Piece → List Draws → Type 0
PieceLeads hosting old new piece draws = (journey : Journey _) → Reached hosting old journey → PieceGoesOn hosting new journey piece draws

-- So many bytes of the connection's stream are in no message yet. None are kept where it is not there, where it ended, or
-- where a faulty head was told of
abbrev pub IsHeld : Option Connection → ℕ → Type 0
IsHeld None n = n ≡ 0
IsHeld (Some k) n = (k.phase ≡ Open → (rest : List ℕ) × Messages k.stream k.messages rest × (n ≡ length rest)) × (k.phase ≢ Open → n ≡ 0)

-- the connection was answered the 400 of a faulty head, whether or not its stream has ended since
abbrev pub is_closing : Option Connection → Bool
is_closing None = false
is_closing (Some k) = is_closing_phase k.phase
