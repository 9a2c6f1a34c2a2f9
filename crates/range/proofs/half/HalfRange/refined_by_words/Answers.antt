use Rattle.std.proofs.Common.{◌^◌, arith}
use Rattle.range.proofs.Places.{within_fits}
use Rattle.range.proofs.half.HalfRange.refined_by_words.Goals as goal

pub cut_by-requires : goal.cut_by-requires
cut_by-requires c = within_fits c.in_ok-left.left c.words.result (2 ^ 32) (omega arith) (omega arith) c.words.ensures.fits c.in_ok-left.ensures.within.0

pub cut_by-requires-2 : goal.cut_by-requires-2
cut_by-requires-2 c = within_fits c.in_ok-left.right c.words-2.result (2 ^ 32) (omega arith) (omega arith) c.words-2.ensures.fits c.in_ok-left.ensures.within.1
