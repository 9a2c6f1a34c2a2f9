use Rattle.etcd_client.proofs.Spelled.{place_again}
use Rattle.etcd_client.proofs.laws.pieces_are_found_again.Goals as goal

pub returns : goal.returns
returns c = place_again
