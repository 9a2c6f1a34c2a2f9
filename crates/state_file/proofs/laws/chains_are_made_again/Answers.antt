use Rattle.state_file.specs.ReplayingLaws.{replays}
use Rattle.state_file.proofs.laws.chains_are_made_again.Goals as goal

pub returns : goal.returns
returns c = λ left history stands chain run. replays left history stands chain run
