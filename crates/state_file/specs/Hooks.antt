-- The hooks that a history sets.
use Rattle.std.specs.Prelude.{◌≡◌, ◌++◌, ℕ, List, [], ◌∷◌, Option, Some, is_some, find, filter, not, if◌then◌else◌, All}
use Rattle.state_file.specs.Names.{bytes_eq, Event, Change, with_change, happens, HookFact}

-- the hook of the name
abbrev pub hook_named : List ℕ → List HookFact → Option HookFact
hook_named name hooks = find (λ hook. bytes_eq name hook.name) hooks

abbrev pub without_hook : List ℕ → List HookFact → List HookFact
without_hook name hooks = filter (λ hook. not (bytes_eq name hook.name)) hooks

-- the hooks that are set after the change
abbrev pub hooks_with : List HookFact → Change → List HookFact
hooks_with hooks (happens.HookSet name version code) = hooks ++ record { name = name; version = version; code = code } ∷ []
hooks_with hooks (happens.HookGone name) = without_hook name hooks
hooks_with hooks _ = hooks

-- the hooks that are set after the events, in the order in which they were set
abbrev pub hooks_after : List HookFact → List Event → List HookFact
hooks_after hooks [] = hooks
hooks_after hooks (e ∷ later) = hooks_after (hooks_with hooks e.change) later

abbrev pub hooks_set_in : List Event → List HookFact
hooks_set_in history = hooks_after [] history

-- the history goes on with the hook, set at the moment, unless one of its name is set
abbrev pub with_hook : ℕ → List Event → HookFact → List Event
with_hook moment history hook =
    if is_some (hook_named hook.name (hooks_set_in history)) then history
    else with_change history moment (happens.HookSet hook.name hook.version hook.code)

-- or with some hooks, one after the other
abbrev pub with_hooks : ℕ → List Event → List HookFact → List Event
with_hooks moment history [] = history
with_hooks moment history (hook ∷ hooks) = with_hooks moment (with_hook moment history hook) hooks

-- each of the hooks is set under its name
abbrev pub AreSet : List HookFact → List Event → Type 0
AreSet hooks history = All (λ hook. hook_named hook.name (hooks_set_in history) ≡ Some hook) hooks
