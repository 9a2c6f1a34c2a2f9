use Rattle.etcd_client.proofs.Spelled.{head_again}
use Rattle.etcd_client.proofs.laws.heads_are_read_again.Goals as goal

pub returns : goal.returns
returns c = head_again
