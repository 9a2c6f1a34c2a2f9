use Rattle.etcd_client.proofs.Spelled.{head_of_another}
use Rattle.etcd_client.proofs.laws.no_head_is_of_another_cluster.Goals as goal

pub returns : goal.returns
returns c = head_of_another
