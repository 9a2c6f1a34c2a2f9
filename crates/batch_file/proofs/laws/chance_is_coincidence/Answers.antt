use Rattle.batch_file.proofs.Chance.{chance_is_coincidence}
use Rattle.batch_file.proofs.laws.chance_is_coincidence.Goals as goal

pub returns : goal.returns
returns c = chance_is_coincidence
