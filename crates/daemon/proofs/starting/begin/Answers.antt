use Rattle.std.proofs.Common.{rules}
use Rattle.daemon.proofs.starting.begin.Goals as goal

pub returns-clause-drawn : goal.returns-clause-drawn
returns-clause-drawn g c = λ none. record { seed = c.in-Some.seed; size = search rules; given = rw none at c.in-Some.ensures; generator_is = c.from_seed.ensures }
