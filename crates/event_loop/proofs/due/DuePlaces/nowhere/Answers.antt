use Rattle.std.proofs.Common.{arith, false}
use Rattle.event_loop.proofs.Putting.{replicate_here}
use Rattle.event_loop.proofs.due.DuePlaces.nowhere.Goals as goal

pub invariant_of-result : goal.invariant_of-result
invariant_of-result c = (omega (arith), (λ k from less. replicate_here 64 k false less), λ some. absurd (omega (arith, some)))

pub returns : goal.returns
returns c = λ k less. replicate_here 64 k false less
