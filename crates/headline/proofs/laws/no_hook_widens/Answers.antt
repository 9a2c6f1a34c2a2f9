use Rattle.headline.proofs.Narrowing.{hooks_narrow}
use Rattle.headline.proofs.laws.no_hook_widens.Goals as goal

pub returns : goal.returns
returns c = hooks_narrow
