-- The hooks that a history sets.
use Rattle.std.specs.Prelude.{ℕ, List, [], ◌∷◌, ◌++◌, Bool, false, filter, not, if◌then◌else◌}
use Rattle.std.specs.List.{list_any}
use Rattle.std.specs.Str.{bytes_eq}
use Rattle.consent.specs.History.{Event, Change}
use Rattle.consent.specs.History.Change.{HookSet, HookGone}
use Rattle.consent.specs.declared.record_version.RecordVersion.{RecordVersion}

-- a hook as it was set
pub record SetHook : Type 0 where
  pub name : List ℕ
  pub version : RecordVersion
  pub code : List ℕ

-- the change takes the hook away
abbrev pub takes : List ℕ → Change → Bool
takes name (HookGone n) = bytes_eq name n
takes name _ = false

-- the hook that the change sets, if no later one takes it away
abbrev pub hook_by : Change → List Event → List SetHook
hook_by (HookSet name version code) later =
    if list_any (λ e. takes name e.change) later then [] else record { name = name; version = version; code = code } ∷ []
hook_by _ later = []

-- the hooks that are set, in the order in which they were
abbrev pub hooks_set : List Event → List SetHook
hooks_set [] = []
hooks_set (e ∷ later) = hook_by e.change later ++ hooks_set later

-- the hooks that are set after the change
abbrev pub hooks_with : List SetHook → Change → List SetHook
hooks_with hooks (HookSet name version code) = hooks ++ record { name = name; version = version; code = code } ∷ []
hooks_with hooks (HookGone name) = filter (λ hook. not (bytes_eq name hook.name)) hooks
hooks_with hooks _ = hooks

-- the hooks that are set after the events
abbrev pub hooks_after : List SetHook → List Event → List SetHook
hooks_after hooks [] = hooks
hooks_after hooks (e ∷ later) = hooks_after (hooks_with hooks e.change) later
