use Rattle.etcd_client.proofs.Spelled.{pieces_apart}
use Rattle.etcd_client.proofs.laws.pieces_are_apart.Goals as goal

pub returns : goal.returns
returns c = pieces_apart
