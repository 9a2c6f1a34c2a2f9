use Rattle.etcd_client.proofs.Then.{stood_there}
use Rattle.etcd_client.proofs.laws.pieces_that_were_told_stood_there.Goals as goal

pub returns : goal.returns
returns c = stood_there
