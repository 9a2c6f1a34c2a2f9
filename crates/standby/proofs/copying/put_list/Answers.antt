use Rattle.standby.proofs.Leading.{on_ok}
use Rattle.standby.proofs.copying.put_list.Goals as goal

pub returns-clause-leads : goal.returns-clause-leads
returns-clause-leads g c = on_ok c.put_on-put.result (_, c.in_ok-cluster.ensures.led.0)
