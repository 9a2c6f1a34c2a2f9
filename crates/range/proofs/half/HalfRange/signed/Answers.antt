use Rattle.std.proofs.Common.{arith}
use Rattle.range.proofs.Names.{W64, B32, word_extended_fits}
use Rattle.range.proofs.LowHalves.{extended_place, half_ends_same}
use Rattle.range.proofs.SignedRanges.{word_by_ends}
use Rattle.range.proofs.half.HalfRange.signed.Goals as goal

pub returns-clause-has : goal.returns-clause-has
returns-clause-has c x h =
    let place = extended_place x in
    record { word = word_extended_fits W64 B32 x; above = omega (arith, h.above); below = omega (arith, h.below) }

pub returns-clause-single : goal.returns-clause-single
returns-clause-single c x hx one =
    let ends = half_ends_same c.args.self x (omega arith) one in
    let place = extended_place x in
    word_by_ends _ _ (word_extended_fits W64 B32 x) (omega arith) (omega arith)
