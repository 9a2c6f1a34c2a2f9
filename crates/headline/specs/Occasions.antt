-- A request at a server, what it comes to, and what it leaves.
use Rattle.std.specs.Prelude.{◌≡◌, ◌≤◌, ℕ, List, [], Bool}
use Rattle.headline.specs.Names.{Hosting, RegistryRecord, with_changes, path_of, Reply, Outcome, SeenServer, Outset, FitsServer}
use Rattle.consent.specs.History.{Event}
use Rattle.answers.specs.Setting.{HostSays, Setting}
use Rattle.endpoints.specs.Replies.{request_outcome}
use Rattle.endpoints.specs.Steps.{Arrival}

-- a request as it comes, what the host of hooks says then, and whether memory is refused for it
pub record Occasion : Type 0 where
  pub arrival : Arrival
  pub host : HostSays
  pub refused : Bool

-- what it is decided by after this history
abbrev pub setting_on : RegistryRecord → List Event → Occasion → Setting
setting_on rules history occasion = record {
  rules = rules;
  history = history;
  host = occasion.host;
  moment = occasion.arrival.moment;
  draws = occasion.arrival.draws;
}

-- what it comes to then
abbrev pub outcome_of : RegistryRecord → List Event → Occasion → Outcome
outcome_of rules history occasion = request_outcome occasion.refused (setting_on rules history occasion) occasion.arrival.asked

abbrev pub reply_on : RegistryRecord → List Event → Occasion → Reply
reply_on rules history occasion = (outcome_of rules history occasion).reply

-- the history that it leaves
abbrev pub history_after : RegistryRecord → List Event → Occasion → List Event
history_after rules history occasion = with_changes history occasion.arrival.moment (outcome_of rules history occasion).changes

-- it goes to this path
abbrev pub GoesTo : Occasion → List ℕ → Type 0
GoesTo occasion path = path_of occasion.arrival.asked.target ≡ path

-- so it is on each occasion, under all rules and after every history
abbrev pub OnEachOccasion : (RegistryRecord → List Event → Occasion → Type 0) → Type 0
OnEachOccasion fact = (rules : RegistryRecord) (history : List Event) (occasion : Occasion) → fact rules history occasion

-- so it is on each occasion at each server, under its rules, after the history that it fits, and not before its moment
abbrev pub AtEachServer : {H : Type 0} → Hosting H → (RegistryRecord → List Event → Occasion → Type 0) → Type 0
AtEachServer {H = H} hosting fact =
    (server : SeenServer H) (outset : Outset H) (history : List Event) (m : ℕ) (occasion : Occasion) →
    FitsServer hosting server outset history m → m ≤ occasion.arrival.moment → fact outset.rules history occasion

-- with a 503 nothing happens
abbrev pub IsIdleWhere503 : RegistryRecord → List Event → Occasion → Type 0
IsIdleWhere503 rules history occasion = (reply_on rules history occasion).status ≡ 503 → (outcome_of rules history occasion).changes ≡ []
