-- What the edge keeps of connections.
use Rattle.std.specs.Prelude.{◌≡◌, ◌≢◌, ◌≤◌, ◌<◌, ◌-◌, ℕ, nat_le, List, [], ◌∷◌, Option, Some, None, ◌==◌, filter, find, length, map, Contains, ⊤}
use Rattle.http_edge.specs.Names.{Messages, Phase}
use Rattle.http_edge.specs.Schedule.{Connection, untaken}
use Rattle.http_edge.specs.declared.lane.Phase.TheVariants.{Open}

-- a connection's rest that was not read, its output that was not taken, and up to how many bytes of that the ends of its replies are
pub record SeenLane : Type 0 where
  pub number : ℕ
  pub phase : Phase
  pub rest : List ℕ
  pub output : List ℕ
  pub ends : List ℕ

-- the ends that are no less than so many bytes, counted from there
abbrev pub ends_from : ℕ → List ℕ → List ℕ
ends_from n ends = map (λ end. end - n) (filter (λ end. nat_le n end) ends)

abbrev pub lane_at : List SeenLane → ℕ → Option SeenLane
lane_at lanes c = find (λ lane. lane.number == c) lanes

abbrev pub output_in : Option SeenLane → List ℕ
output_in None = []
output_in (Some lane) = lane.output

abbrev pub rest_in : Option SeenLane → List ℕ
rest_in None = []
rest_in (Some lane) = lane.rest

-- what is kept of a connection is what is known of it: an open one's rest is that of its whole stream, and all output are whole replies
pub record ShowsConnection (lane : SeenLane) (k : Connection) : Type 0 where
  pub number : lane.number ≡ k.number
  pub phase : lane.phase ≡ k.phase
  pub within : k.taken ≤ length k.output
  pub output : lane.output ≡ untaken (Some k)
  pub ends : lane.ends ≡ ends_from k.taken k.ends
  pub whole : 0 < length k.output → Contains k.ends (length k.output)
  pub rest : k.phase ≡ Open → Messages k.stream k.messages lane.rest
  pub nothing_held : k.phase ≢ Open → lane.rest ≡ []

-- of all connections, in their order
abbrev pub ShowsConnections : List SeenLane → List Connection → Type 0
ShowsConnections [] [] = ⊤
ShowsConnections (lane ∷ lanes) (k ∷ connections) = ShowsConnection lane k × ShowsConnections lanes connections
ShowsConnections lanes connections = ⊥
