-- What a request is decided by.
use Rattle.std.specs.Prelude.{ℕ, List, Option}
use Rattle.answers.specs.Names.{RegistryRecord, Event, Ask, Narrowed, HookFault, Draws}

-- what a host says: its answer to each ask, its hooks' names, and the fault that it has for the change that the request
-- asks for, if any
pub record HostSays : Type 0 where
  pub answer : Ask → Narrowed
  pub names : List (List ℕ)
  pub fault : Option HookFault

-- the rules, what has happened, what the host says, the moment, and the draws
pub record Setting : Type 0 where
  pub rules : RegistryRecord
  pub history : List Event
  pub host : HostSays
  pub moment : ℕ
  pub draws : Draws

-- what a document is told by: all but the draws and the host's answers
pub record Situation : Type 0 where
  pub rules : RegistryRecord
  pub history : List Event
  pub hooks : List (List ℕ)
  pub moment : ℕ

abbrev pub situation_of : Setting → Situation
situation_of s = record { rules = s.rules; history = s.history; hooks = s.host.names; moment = s.moment }
