use Rattle.std.proofs.Common.{arith}
use Rattle.std.proofs.lemmas.Int.{ints}
use Rattle.range.proofs.LowHalves.{extended_low, amount_reading, raised_same}
use Rattle.range.proofs.SignedRanges.{above_least, below_greatest}
use Rattle.range.proofs.half.HalfRange.raised.Goals as goal

pub returns : goal.returns
returns c x y hx hy =
    let above = above_least c.args.amounts y hy in
    let below = below_greatest c.args.amounts y hy in
    let amount = amount_reading y hy.word (omega (arith, ints)) (omega (arith, ints)) in
    rw (raised_same x _ y amount.0 amount.1 (extended_low x)) at (c.apply.ensures.sound _ y (c.signed.ensures.has x hx) hy)
