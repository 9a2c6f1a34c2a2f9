use Rattle.std.proofs.Common.{refl, zero-add}
use Rattle.range.proofs.unsigned.URange.image_of.Goals as goal

pub returns-in-Neg : goal.returns-in-Neg
returns-in-Neg c = rw c.in-Neg.is (λ x h. rw zero-add at (c.difference.ensures 0 _ ((c.exact.ensures.alone 0).1 refl) (c.seen.ensures.has x h)))
