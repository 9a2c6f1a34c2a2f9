use Rattle.headline.proofs.Tracing.{are_audited}
use Rattle.headline.proofs.laws.whatever_happened_is_told.Goals as goal

pub returns : goal.returns
returns g c = λ outset schedule last run. are_audited g.H.HookHost outset schedule last run
