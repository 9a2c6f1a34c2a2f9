use Rattle.headline.proofs.Exchanged.{dead_after, ended}
use Rattle.headline.proofs.laws.a_revoked_family_stays_dead.Goals as goal

pub returns : goal.returns
returns c = λ rules history occasion token later it. dead_after rules history occasion token.family (ended rules history occasion token it) later
