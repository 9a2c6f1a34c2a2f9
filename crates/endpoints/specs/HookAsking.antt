-- The hook that a request asks for, wherever its texts lie.
use Rattle.std.specs.Prelude.{◌≡◌, ℕ, List, Option, codes, option_and_then, option_map}
use Rattle.endpoints.specs.Names.{value_sent, Parameters}
use Rattle.consent.specs.History.{Change}
use Rattle.consent.specs.History.Change.{HookSet}
use Rattle.endpoints.specs.HookPaths.{hook_set}
use Rattle.endpoints.specs.declared.hooks.HookAsked.{HookAsked}

-- it is set, with this code
abbrev pub hook_set_asked : List ℕ → HookAsked → Change
hook_set_asked code asked = HookSet asked.name.now asked.version code

-- the parameters ask for it, whatever its code
abbrev pub IsAskedFor : Parameters → Option HookAsked → Type 0
IsAskedFor params asked =
    (code : List ℕ) → option_map (hook_set_asked code) asked ≡ option_and_then (hook_set params code) (value_sent (codes "name") params)
