-- The replies of one connection, as answers of one page (`endpoints` `Answer`).
use Rattle.std.specs.Prelude.{◌≡◌, ◌≤◌, ◌++◌, ℕ, List, [], ◌∷◌, Bool, Some, Option}
use Rattle.headline.specs.Names.{Hosting, Connection, Journey, connection_at, faulty_if, is_closing_phase, with_changes, flat_map}
use Rattle.consent.specs.History.{Event}
use Rattle.endpoints.specs.Answer.{Outcome, answer}
use Rattle.endpoints.specs.Answered.{bytes_of}
use Rattle.endpoints.specs.Hosts.{HostRun, IsHostFault, says_with}
use Rattle.endpoints.specs.Replies.{hook_change}
use Rattle.heads.specs.Message.{Message, Messages, asked_of_message}
use Rattle.headline.specs.Conversations.{draws_on}
use Rattle.hook_host.specs.declared.fault.HookFault.{HookFault}
use Rattle.http_edge.specs.Names.{IsFrontOf}
use Rattle.messages.specs.declared.request.Draws.{Draws}

-- The outcome is the answer to the message in this world: at a moment up to its greatest one, after a history with which its
-- own begins, where the outcome's changes come next. Left open is whether memory was refused, and which of its own faults the
-- host has, if it has one.
pub record IsAnswerTo {H : Type 0} (hosting : Hosting H) (journey : Journey H) (message : Message) (draws : Draws) (outcome : Outcome) : Type 0 where
  pub moment : ℕ
  pub so_far : moment ≤ journey.world.greatest
  pub history : List Event
  pub front : IsFrontOf (with_changes history moment outcome.changes) journey.world.history
  pub host : H
  pub comes : HostRun hosting journey.outset.first history host
  pub fault : Option HookFault
  pub fault_is : IsHostFault hosting host (hook_change (asked_of_message message)) fault
  pub no_memory : Bool
  pub answer_is : outcome ≡ answer (record {
    rules = journey.outset.rules;
    history = history;
    host = says_with hosting host fault;
    moment = moment;
    draws = draws;
  }) (asked_of_message message) no_memory

-- each of the outcomes is, in their order
abbrev pub AreAnswersTo : {H : Type 0} → Hosting H → Journey H → List Message → List Draws → List Outcome → Type 0
AreAnswersTo hosting journey [] [] [] = Unit {0}
AreAnswersTo hosting journey (m ∷ ms) (d ∷ ds) (o ∷ os) = IsAnswerTo hosting journey m d o × AreAnswersTo hosting journey ms ds os
AreAnswersTo hosting journey _ _ _ = ⊥

-- All output of the connection, taken and to be taken, is the answers to the messages in its stream, by the draws that came on
-- it, in their order, and behind them the 400 of a faulty head, if one came.
pub record SaysAnswers {H : Type 0} (hosting : Hosting H) (journey : Journey H) (connection : Connection) : Type 0 where
  pub rest : List ℕ
  pub reads : Messages connection.stream connection.messages rest
  pub outcomes : List Outcome
  pub each : AreAnswersTo hosting journey connection.messages (draws_on connection.number journey.schedule) outcomes
  pub output : connection.output ≡ flat_map bytes_of outcomes ++ faulty_if (is_closing_phase connection.phase)

-- so it is of each connection of the world to which a journey led
abbrev pub AllSayAnswers : {H : Type 0} → Hosting H → Journey H → Type 0
AllSayAnswers hosting journey =
    (c : ℕ) (connection : Connection) → connection_at journey.world.connections c ≡ Some connection → SaysAnswers hosting journey connection
