use Rattle.etcd_client.proofs.Tried.{next_turned}
use Rattle.etcd_client.proofs.asking.Asking.next.Goals as goal

pub returns-clause-turned : goal.returns-clause-turned
returns-clause-turned g c =
    let old = c.args.self.now in
    next_turned old.access old.at c.next_of-self.result old.token old.log.log.tries c.len.result c.len.ensures c.next_of-self.ensures
