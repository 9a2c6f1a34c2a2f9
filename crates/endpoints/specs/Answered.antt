-- The answer that a server gives, and what happens with it. `Answer` says which it is.
use Rattle.std.specs.Prelude.{◌≡◌, ℕ, List, [], Bool, Option, option_map, max}
use Rattle.answers.specs.Outcomes as server
use Rattle.answers.specs.Setting.{Setting}
use Rattle.consent.specs.History.{Event, with_changes}
use Rattle.endpoints.specs.Hosts.{HostRun, IsHostFault, says_with}
use Rattle.endpoints.specs.Replies.{request_outcome, hook_change}
use Rattle.endpoints.specs.Server.{SeenServer, Outset, FitsServer, Before, AreNoted}
use Rattle.endpoints.specs.Steps.{Arrival}
use Rattle.hook_host.specs.declared.fault.HookFault.{HookFault}
use Rattle.hook_host.specs.declared.host.HookHost.{Ghosts as Hosting}
use Rattle.messages.specs.Asked.{Asked}
use Rattle.messages.specs.Written.{Written, location_text, json_of, reply_bytes}
use Rattle.serde_json.specs.Written.{compact_text}
use Rattle.endpoints.specs.Answer.{Outcome, answer}

-- an outcome of the server, as the page has it
abbrev pub on_page : server.Outcome → Outcome
on_page o = record {
  status = o.reply.status;
  location = option_map location_text o.reply.location;
  body = json_of o.reply.body;
  changes = o.changes;
}

-- whatever has happened, and whatever is asked, the outcome is the page's answer
abbrev pub IsAnswered : Type 0
IsAnswered = (no_memory : Bool) (s : Setting) (request : Asked) → answer s request no_memory ≡ on_page (request_outcome no_memory s request)

-- ONE REQUEST AT A SERVER

-- an outcome's reply in writing
abbrev pub written : Outcome → Written
written o = record { status = o.status; location = o.location; body = option_map compact_text o.body }

-- the bytes of an outcome's reply
abbrev pub bytes_of : Outcome → List ℕ
bytes_of o = reply_bytes (written o)

-- the reply is the outcome's, the server fits the history with the outcome's changes, its host comes from the one before by
-- these, and just these are noted
pub record IsMadeSo {H : Type 0} (hosting : Hosting H) (before : Before H) (outcome : Outcome) (reply : Written) (new : SeenServer H) : Type 0 where
  pub reply_is : reply ≡ written outcome
  pub fits : FitsServer hosting new before.outset (with_changes before.history before.moment outcome.changes) before.moment
  pub hosts : HostRun hosting before.server.host (with_changes [] before.moment outcome.changes) new.host
  pub noted : AreNoted before.server new before.history (with_changes before.history before.moment outcome.changes)

-- whatever history the server fitted, the page's answer is made, at the greatest moment so far: it is left open whether memory
-- was refused, and which of its own faults the host has, if it has one
abbrev pub Answers : {H : Type 0} → Hosting H → SeenServer H → Arrival → Written → SeenServer H → Type 0
Answers {H = H} hosting server arrival reply new =
    (outset : Outset H) (history : List Event) (m : ℕ) → FitsServer hosting server outset history m →
    (no_memory : Bool) × (fault : Option HookFault) × IsHostFault hosting server.host (hook_change arrival.asked) fault
    × IsMadeSo hosting (record { server = server; outset = outset; history = history; moment = max m arrival.moment })
    (answer (record {
      rules = outset.rules;
      history = history;
      host = says_with hosting server.host fault;
      moment = max m arrival.moment;
      draws = arrival.draws;
    }) arrival.asked no_memory)
    reply new
