use Rattle.headline.proofs.Exchanged.{uses_up}
use Rattle.headline.proofs.laws.nothing_is_exchanged_twice.Goals as goal

pub returns : goal.returns
returns c = uses_up
