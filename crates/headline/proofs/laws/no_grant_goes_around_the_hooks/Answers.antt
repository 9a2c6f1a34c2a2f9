use Rattle.headline.proofs.Deciding.{decided}
use Rattle.headline.proofs.laws.no_grant_goes_around_the_hooks.Goals as goal

pub returns : goal.returns
returns c = λ rules history occasion hooks answers. decided rules history occasion hooks answers
