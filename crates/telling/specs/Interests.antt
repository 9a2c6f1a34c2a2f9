-- Of which requests it is to be told.
use Rattle.std.specs.Prelude.{List, Bool, true, false, Option, Some, None, if◌then◌else◌}
use Rattle.hook_host.specs.Verdicts.{Verdict, last_left}
use Rattle.hook_record.specs.declared.Narrowed.{Narrowed}
use Rattle.hook_record.specs.declared.Narrowed.TheVariants.{Denied, EmptyScope}
use Rattle.telling.specs.declared.interest.Interest.{Interest}
use Rattle.telling.specs.declared.interest.Interest.TheVariants.{Nothing, Denials, Everything}
use Rattle.telling.specs.declared.told.Told.{Told}

-- nothing may be granted
abbrev pub denies : Narrowed → Bool
denies Denied = true
denies _ = false

-- the last of the hooks that were asked denied
abbrev pub is_denial : List Verdict → Bool
is_denial verdicts = denies (last_left EmptyScope verdicts)

-- it is to be told of it
abbrev pub is_wanted : Interest → Told → Bool
is_wanted Nothing told = false
is_wanted Denials told = is_denial told.verdicts
is_wanted Everything told = true

-- what is told, where it is wanted
abbrev pub wanted_of : Interest → Told → Option Told
wanted_of interest told = if is_wanted interest told then Some told else None
