-- The requests and the replies of one connection.
use Rattle.std.specs.Prelude.{◌≡◌, ◌≤◌, ◌++◌, ◌==◌, ℕ, List, [], All, Some, if◌then◌else◌, length, take}
use Rattle.headline.specs.Names.{Hosting, Outset, AnsweredRequest, IsOutcomeOfRequest, AreAskedBy, replies_of, World, Connection, Happening, Opened, Came, Run, Journey, connection_at, faulty_if}
use Rattle.headline.specs.Names.{first_world, is_closing_phase, with_changes}
use Rattle.consent.specs.History.{Event}
use Rattle.endpoints.specs.Hosts.{HostRun}
use Rattle.heads.specs.Message.{Messages}
use Rattle.http_edge.specs.Answers.{answerer, draws_in}
use Rattle.http_edge.specs.Names.{IsFrontOf}
use Rattle.messages.specs.declared.request.Draws.{Draws}
use Rattle.std.specs.List.{fold}

-- The request has its outcome in this world: at a moment up to its greatest one, and after a history with which its own begins,
-- where the outcome's changes come next.
pub record HasOutcome {H : Type 0} (hosting : Hosting H) (outset : Outset H) (world : World) (request : AnsweredRequest) : Type 0 where
  pub moment : ℕ
  pub so_far : moment ≤ world.greatest
  pub history : List Event
  pub front : IsFrontOf (with_changes history moment request.outcome.changes) world.history
  pub host : H
  pub comes : HostRun hosting outset.first history host
  pub after : H
  pub answered : IsOutcomeOfRequest hosting (answerer outset history host moment) request after

-- the draws of the connection's requests, once this has happened too
abbrev pub with_draws : ℕ → List Draws → Happening → List Draws
with_draws c draws (Opened other) = if other == c then [] else draws
with_draws c draws (Came came) = if came.piece.connection == c then draws ++ take (length came.mishaps) came.draws else draws
with_draws c draws happening = draws

-- the draws that came with the connection's pieces for the requests that these completed, since it was opened last
abbrev pub draws_on : ℕ → List Happening → List Draws
draws_on c schedule = fold (with_draws c) [] schedule

-- The requests of a connection are the messages in its stream, with the draws that came on it, each once and in their order. All
-- its output, taken and to be taken, is the written replies to the requests, in their order, and behind them the 400 of a
-- faulty head, if one came.
pub record Conversation {H : Type 0} (hosting : Hosting H) (journey : Journey H) (connection : Connection) : Type 0 where
  pub rest : List ℕ
  pub reads : Messages connection.stream connection.messages rest
  pub requests : List AnsweredRequest
  pub asked : AreAskedBy connection.messages requests
  pub draws : draws_in requests ≡ draws_on connection.number journey.schedule
  pub each : All (HasOutcome hosting journey.outset journey.world) requests
  pub replies : connection.output ≡ replies_of requests ++ faulty_if (is_closing_phase connection.phase)

-- so it is of each connection of the world to which a journey led
abbrev pub HasConversations : {H : Type 0} → Hosting H → Journey H → Type 0
HasConversations hosting journey =
    (c : ℕ) (connection : Connection) → connection_at journey.world.connections c ≡ Some connection → Conversation hosting journey connection

-- so it is of each world that events lead to, by the way there
abbrev pub InEachWorld : {H : Type 0} → Hosting H → (Journey H → Type 0) → Type 0
InEachWorld {H = H} hosting fact =
    (outset : Outset H) (schedule : List Happening) (world : World) → Run hosting outset first_world schedule world →
    fact (record { outset = outset; schedule = schedule; world = world })
