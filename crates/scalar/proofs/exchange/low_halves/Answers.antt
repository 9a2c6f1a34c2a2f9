use Rattle.std.proofs.Common.{arith}
use Rattle.range.specs.MemberLaws.{same_low}
use Rattle.scalar.proofs.exchange.low_halves.Goals as goal

pub returns : goal.returns
returns c x h =
    same_low c.of_words.result _ x h.word (omega arith)
    (c.of_words.ensures.has _ (c.of_unsigned.ensures _ (c.range.ensures.members _ (c.apply-low.ensures.sound x x h h))))
