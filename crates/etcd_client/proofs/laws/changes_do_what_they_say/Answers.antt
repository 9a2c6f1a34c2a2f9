use Rattle.etcd_client.proofs.Effected.{changes_made}
use Rattle.etcd_client.proofs.laws.changes_do_what_they_say.Goals as goal

pub returns : goal.returns
returns c = changes_made
