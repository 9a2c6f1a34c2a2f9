use Rattle.narrowing.specs.ShortRightLaws.{shortened_stays_right}
use Rattle.narrowing.proofs.laws.what_is_shortened_is_right.Goals as goal

pub returns : goal.returns
returns c = shortened_stays_right
