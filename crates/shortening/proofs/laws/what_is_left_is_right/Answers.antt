use Rattle.std.proofs.Common.{◌≡◌, true}
use Rattle.shortening.specs.RightnessLaws.{shortened_right}
use Rattle.shortening.proofs.laws.what_is_left_is_right.Goals as goal

pub returns : goal.returns
returns c = λ right history m. shortened_right history m (λ before change. right before change ≡ true)
