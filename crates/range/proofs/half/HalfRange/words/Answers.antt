use Rattle.range.proofs.Names.{W32, signed_place}
use Rattle.range.proofs.LowHalves.{low_back, place_lies}
use Rattle.range.proofs.half.HalfRange.words.Goals as goal

pub returns-clause-has : goal.returns-clause-has
returns-clause-has c x h =
    rw (low_back x) at (c.turned.ensures.has (signed_place W32 x) (place_lies c.args.self c.places.result x c.places.ensures.is h))
