-- Which hooks denied how often.
use Rattle.std.specs.Prelude.{ℕ, List, [], ◌∷◌, ◌++◌, Bool, Option, Some, None, bytes_eq, find, length, map, nat_lt, if◌then◌else◌}
use Rattle.std.specs.List.{list_any}
use Rattle.hook_host.specs.Verdicts.{Verdict, verdict_in}
use Rattle.telling.specs.Audience.{Audience}
use Rattle.telling.specs.Interests.{denies}
use Rattle.telling.specs.declared.interest.Interest.{Interest}
use Rattle.telling.specs.declared.interest.Interest.TheVariants.{Denials}
use Rattle.telling.specs.declared.told.Told.{Told}
use Rattle.metrics.specs.Histograms.{plus}
use Rattle.metrics.specs.declared.denials.DeniedBy.{DeniedBy}

-- a hook's name, and how often it denied
pub record Counted : Type 0 where
  pub hook : List ℕ
  pub count : ℕ

-- each that did, in the order in which they first did, and how often others did
pub record Denied : Type 0 where
  pub by : List Counted
  pub others : ℕ

abbrev pub no_denials : Denied
no_denials = record { by = []; others = 0 }

abbrev pub counted_in : DeniedBy → Counted
counted_in denied = record { hook = (verdict_in denied.first).name; count = denied.count }

-- once more, where it is the one of this name
abbrev pub denied_once : List ℕ → DeniedBy → DeniedBy
denied_once hook denied = if bytes_eq (counted_in denied).hook hook then record denied { count = plus denied.count 1 } else denied

abbrev pub once_more : List ℕ → Counted → Counted
once_more hook counted = if bytes_eq counted.hook hook then record counted { count = plus counted.count 1 } else counted

-- whether one of them has this name
abbrev pub has_hook : List ℕ → List Counted → Bool
has_hook hook by = list_any (λ counted. bytes_eq counted.hook hook) by

-- of so many it is counted by name
abbrev pub most_hooks : ℕ
most_hooks = 64

-- one denied that did not before
abbrev pub first_denied : Denied → List ℕ → Denied
first_denied denied hook =
    if nat_lt (length denied.by) most_hooks then record denied { by = denied.by ++ record { hook = hook; count = 1 } ∷ [] }
    else record denied { others = plus denied.others 1 }

-- a hook denied
abbrev pub denied_by : Denied → List ℕ → Denied
denied_by denied hook =
    if has_hook hook denied.by then record denied { by = map (once_more hook) denied.by } else first_denied denied hook

-- a hook denied
abbrev pub is_denier : Verdict → Bool
is_denier verdict = denies verdict.left

-- the first that denied, if one did
abbrev pub denied_by_some : Denied → Option Verdict → Denied
denied_by_some denied None = denied
denied_by_some denied (Some verdict) = denied_by denied verdict.name

-- of what hooks left of one ask, in their order
abbrev pub denials_after : Denied → List Verdict → Denied
denials_after denied verdicts = denied_by_some denied (find is_denier verdicts)

-- of each request that was told, in its order
abbrev pub denials_told : Denied → List Told → Denied
denials_told denied [] = denied
denials_told denied (told ∷ later) = denials_told (denials_after denied told.verdicts) later

-- so many more denied, by hooks that are not known
abbrev pub denials_lost : Denied → ℕ → Denied
denials_lost denied lost = record denied { others = plus denied.others lost }

-- where it is told of denials alone, those that there was no room for are denials, too
abbrev pub denials_beyond : Interest → ℕ → ℕ
denials_beyond Denials dropped = dropped
denials_beyond _ dropped = 0

abbrev pub denials_heard : Denied → Audience → Denied
denials_heard denied audience = denials_lost (denials_told denied audience.told) (denials_beyond audience.interest audience.dropped)
