use Rattle.std.proofs.Common.{arith}
use Rattle.range.proofs.Names.{W64, signed_place}
use Rattle.range.proofs.Places.{turned_back}
use Rattle.range.proofs.signed.SRange.unsigned.Goals as goal

pub returns : goal.returns
returns c x h =
    rw (turned_back W64 x h.word) at (c.turned.ensures.has (signed_place W64 x) (record { word = omega arith; above = h.above; below = h.below }))
