-- Whatever a host answers, an ask is not widened.
use Rattle.std.specs.Prelude.{ℕ, ◌≡◌}
use Rattle.hook_record.specs.declared.Ask.{Ask}
use Rattle.hook_record.specs.declared.Narrowed.{Narrowed}
use Rattle.hook_record.specs.declared.Narrowed.TheVariants.{Denied, EmptyScope, Allowed}
use Rattle.hook_record.specs.Narrowing.{IsNarrowing}
use Rattle.hook_record.specs.NarrowingLaws.{met_narrows}
use Rattle.hook_host.specs.Decisions.{met_with}

not_denied : (scope life : ℕ) → Denied ≡ Allowed scope life → ⊥
not_denied scope life e = absurd (cc)

not_empty : (scope life : ℕ) → EmptyScope ≡ Allowed scope life → ⊥
not_empty scope life e = absurd (cc)

-- what an answer leaves of an ask is some of it
pub met_with_narrows : (ask : Ask) (answer : Narrowed) (scope life : ℕ)
    → met_with ask answer ≡ Allowed scope life → IsNarrowing ask scope life
met_with_narrows ask (Allowed s l) scope life e = met_narrows ask s l scope life e
met_with_narrows ask Denied scope life e = absurd (not_denied scope life e)
met_with_narrows ask EmptyScope scope life e = absurd (not_empty scope life e)
