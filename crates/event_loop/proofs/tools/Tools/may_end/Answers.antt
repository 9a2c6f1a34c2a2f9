use Rattle.std.proofs.Common.{◌≡◌, ℕ, Some, sym, subst, ◌∙◌}
use Rattle.event_loop.specs.Goes.{IsTimeSince}
use Rattle.event_loop.proofs.tools.Tools.may_end.Goals as goal

-- since when it is wanted is one second
same_since : (since other : ℕ) → Some since ≡ Some other → since ≡ other
same_since since other is = cc

pub returns-in-None-clause-serves_on : goal.returns-in-None-clause-serves_on
returns-in-None-clause-serves_on g c = λ no journey reached time. (let not = sym c.in-None.is ∙ time.wanted in cc)

pub returns-in-Some-clause-ends : goal.returns-in-Some-clause-ends
returns-in-Some-clause-ends g c = λ yes journey reached. record { since = c.in-Some.since; wanted = c.in-Some.is; ready = c.is_time.ensures.ends yes journey reached }

pub returns-in-Some-clause-serves_on : goal.returns-in-Some-clause-serves_on
returns-in-Some-clause-serves_on g c = λ no journey reached time.
    c.is_time.ensures.serves_on no journey reached
    (subst (λ since. IsTimeSince since c.args.service.now journey.world) (same_since time.since c.in-Some.since (sym time.wanted ∙ c.in-Some.is)) time.ready)
