-- Beside Told: only the contracts of this crate's own parts and their proofs cite this, no public clause.
use Rattle.std.specs.Prelude.{ℕ, List, Option, Result}
use Rattle.answers.specs.Names.{RegistryRecord, scope_text}
use Rattle.answers.specs.Replies.{id_of}
use Rattle.answers.specs.declared.writing.LiveToken.{LiveToken}
use Rattle.messages.specs.Reply.{Body}
use Rattle.messages.specs.Reply.Body.{Active}
use Rattle.answers.specs.Names.{Event, Grant, Found, Halt}
use Rattle.answers.specs.Outcomes.{Outcome}
use Rattle.answers.specs.Setting.{HostSays, Setting}
use Rattle.answers.specs.Views.{InEachSetting, Shows, setting_of}
use Rattle.answers.specs.Found.{IsFound, grant_found}
use Rattle.answers.specs.declared.view.View.{View}
use Rattle.answers.specs.declared.decision.Decision.{Decision}
use Rattle.answers.specs.Told.{Decides}

-- what is told of a live token whose owner is called so
abbrev pub live_body_of : RegistryRecord → LiveToken → Option (List ℕ) → Body
live_body_of rules token called =
    Active (id_of rules token.client) token.expires token.issued (scope_text rules.scopes token.scope) called token.kind

-- whatever history the view shows, and whatever the host says, its points come to the decision, or halt
abbrev pub DecidesBy : View → Result Decision Halt → (Setting → Outcome) → Type 0
DecidesBy view result points = InEachSetting view (λ s. Decides s result (points s))

-- and those of the code or token that was found under the digest
abbrev pub DecidesOf : View → List ℕ → Found → Result Decision Halt → (Setting → Grant → Outcome) → Type 0
DecidesOf view digest found result points =
    (history : List Event) (host : HostSays) → Shows view history → IsFound history digest view.moment found →
    Decides (setting_of view history host) result
    (points (setting_of view history host) (grant_found digest found))
