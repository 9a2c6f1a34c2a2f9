use Rattle.std.proofs.Common.{arith}
use Rattle.range.proofs.Names.{ints, B32}
use Rattle.range.proofs.SignedNumbers.{extended_same}
use Rattle.range.proofs.SignedRanges.{above_least, below_greatest}
use Rattle.range.proofs.half.HalfRange.numbers_within.Goals as goal

pub returns-then-greatest-lt2147483648 : goal.returns-then-greatest-lt2147483648
returns-then-greatest-lt2147483648 c x hx h =
    let above = above_least c.args.words x hx in
    let below = below_greatest c.args.words x hx in
    rw (extended_same B32 x h.word (omega (arith, ints)) (omega (arith, ints))) at (c.signed.ensures.has x h)
