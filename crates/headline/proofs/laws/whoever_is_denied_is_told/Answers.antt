use Rattle.headline.proofs.Denying.{denial_told}
use Rattle.headline.proofs.laws.whoever_is_denied_is_told.Goals as goal

pub returns : goal.returns
returns c = λ rules history occasion. denial_told rules history occasion
