use Rattle.headline.proofs.Exchanged.{dead_after}
use Rattle.headline.proofs.Replaying.{ended}
use Rattle.headline.proofs.laws.a_replay_kills_its_family.Goals as goal

pub returns : goal.returns
returns c = λ rules history occasion text grant later it. dead_after rules history occasion grant.family (ended rules history occasion text grant it) later
