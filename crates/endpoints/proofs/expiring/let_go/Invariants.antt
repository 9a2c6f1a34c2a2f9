use Rattle.std.proofs.Common.{length}
use Rattle.endpoints.proofs.Names.{FitsStore}
use Rattle.endpoints.specs.Parts.{WhereverFits}
use Rattle.endpoints.proofs.expiring.let_go.Given as goal

abbrev pub invariant-loop-moment : goal.invariant-loop-moment
invariant-loop-moment l = record { fits : WhereverFits l.fn.store l.moment (λ h. FitsStore l.store h l.moment) }

abbrev pub decreases-loop-moment : goal.decreases-loop-moment
decreases-loop-moment l = length l.store.kept
