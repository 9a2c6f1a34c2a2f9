-- What a decision comes to.
use Rattle.std.specs.Prelude.{◌≡◌, ℕ, List, Option, Result, Ok, Err}
use Rattle.answers.specs.Names.{Event, changes_of, as_list, Ask, Narrowed, HookFault, Halt}
use Rattle.answers.specs.Outcomes.{Outcome}
use Rattle.answers.specs.Halts.{Halts}
use Rattle.answers.specs.Replies.{reply_of}
use Rattle.answers.specs.Setting.{Setting}
use Rattle.answers.specs.Views.{Shows, setting_of}
use Rattle.answers.specs.declared.view.View.{View}
use Rattle.answers.specs.declared.decision.Decision.{Decision}

-- the outcome that the decision is
abbrev pub outcome_told : Setting → Decision → Outcome
outcome_told s d = record { reply = reply_of s.rules s.host.names d.answer; changes = changes_of (as_list d.changes) }

-- the points come to the decision, or halt
abbrev pub Decides : Setting → Result Decision Halt → Outcome → Type 0
Decides s (Ok d) points = outcome_told s d ≡ points
Decides s (Err halt) points = Halts halt points

-- and so do those that ask the host, which answers so
abbrev pub DecidesAsking : View → (Ask → Narrowed) → Result Decision Halt → (Setting → Outcome) → Type 0
DecidesAsking view answer result points =
    (history : List Event) (names : List (List ℕ)) (fault : Option HookFault) → Shows view history →
    Decides (setting_of view history (record { answer = answer; names = names; fault = fault })) result
    (points (setting_of view history (record { answer = answer; names = names; fault = fault })))
