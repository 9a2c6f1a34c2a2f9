use Rattle.headline.proofs.Auditing.{audited}
use Rattle.headline.proofs.laws.what_happens_in_a_family_is_told.Goals as goal

pub returns : goal.returns
returns c = λ rules history occasion. audited rules history occasion
