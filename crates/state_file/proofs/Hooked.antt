-- The hooks of a history that goes on.
use Rattle.std.proofs.Common.{◌≡◌, ℕ, List, [], ◌∷◌, ◌++◌, refl, ap, ◌∙◌}
use Rattle.state_file.proofs.Names.{Event, event_at, with_change, Happened, HookFact, hooks_with, hooks_after, hooks_set_in}
use Rattle.consent.specs.History.{Change}

hooks_after-push : (hooks : List HookFact) (history : List Event) (e : Event) → hooks_after hooks (history ++ e ∷ []) ≡ hooks_with (hooks_after hooks history) e.change
hooks_after-push hooks [] e = refl
hooks_after-push hooks (x ∷ history) e = hooks_after-push (hooks_with hooks x.change) history e

pub hooks_of-with : (history : List Event) (moment : ℕ) (change : Change) → hooks_set_in (with_change history moment change) ≡ hooks_with (hooks_set_in history) change
hooks_of-with history moment change = hooks_after-push [] history (event_at moment change)

-- some changes, and then others
pub hooks_after-append : (hooks : List HookFact) (ds es : List Event) → hooks_after hooks (ds ++ es) ≡ hooks_after (hooks_after hooks ds) es
hooks_after-append hooks [] es = refl
hooks_after-append hooks (d ∷ ds) es = hooks_after-append (hooks_with hooks d.change) ds es

-- the hooks of a history that dated changes lead to
pub hooks_of-happened : (before after : List Event) (facts : List Event) → Happened before facts after → hooks_set_in after ≡ hooks_after (hooks_set_in before) facts
hooks_of-happened before after facts happened = ap hooks_set_in happened.leads ∙ hooks_after-append [] before facts
