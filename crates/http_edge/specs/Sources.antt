-- What requests have their draws from.
use Rattle.std.specs.Prelude.{List, [], ◌∷◌, Bool, ◌&&◌, ◌||◌, if◌then◌else◌, bytes_eq, codes}
use Rattle.http_edge.specs.Names.{Draws, Asked, Message, asked_of_message, Demand, Fresh, Nothing, Sources}
use Rattle.messages.specs.Target.{path_of}

-- A request wants draws where it may give a code or tokens: GET /authorize and POST /token
abbrev pub wants_draws : Asked → Bool
wants_draws asked =
    (bytes_eq asked.method (codes "GET") && bytes_eq (path_of asked.target) (codes "/authorize"))
    || (bytes_eq asked.method (codes "POST") && bytes_eq (path_of asked.target) (codes "/token"))

-- what a request demands of its source
abbrev pub demand_of : Asked → Demand
demand_of asked = if wants_draws asked then Fresh else Nothing

-- the draws of the messages' requests, one after another
abbrev pub draws_for : {S : Type 0} → Sources S → S → List Message → List Draws
draws_for sources source [] = []
draws_for sources source (message ∷ messages) =
    sources.draws source (demand_of (asked_of_message message))
    ∷ draws_for sources (sources.behind source (demand_of (asked_of_message message))) messages

-- the source behind them
abbrev pub draws_behind : {S : Type 0} → Sources S → S → List Message → S
draws_behind sources source [] = source
draws_behind sources source (message ∷ messages) = draws_behind sources (sources.behind source (demand_of (asked_of_message message))) messages
