use Rattle.shortening.specs.StepsLaws.{picked_shortened}
use Rattle.shortening.proofs.laws.what_stays_is_left.Goals as goal

pub returns : goal.returns
returns c = picked_shortened
