use Rattle.std.proofs.Common.{refl}
use Rattle.etcd_client.specs.Tries.{Asker, asker, turned}
use Rattle.etcd_client.proofs.Tried.{hears_done, hears_forgotten, hears_refused, hears_unclear}
use Rattle.etcd_client.proofs.asking.Asking.hear.Goals as goal

pub returns-in-Done-clause-next : goal.returns-in-Done-clause-next
returns-in-Done-clause-next g c =
    let old = c.args.self.now in
    let by : Asker = (asker old.access old.at old.token old.log.log.tries) in
    hears_done c.args.response by by c.heard_of.result c.in-Done.text c.heard_of.ensures c.in-Done.is refl

pub returns-in-Refused-clause-next : goal.returns-in-Refused-clause-next
returns-in-Refused-clause-next g c =
    let old = c.args.self.now in
    let by : Asker = (asker old.access old.at old.token old.log.log.tries) in
    hears_refused c.args.response by by c.heard_of.result c.in-Refused.code c.heard_of.ensures c.in-Refused.is refl

pub returns-in-Forgotten-clause-next : goal.returns-in-Forgotten-clause-next
returns-in-Forgotten-clause-next g c =
    let old = c.args.self.now in
    hears_forgotten c.args.response (asker old.access old.at old.token old.log.log.tries) _ c.heard_of.result c.heard_of.ensures c.in-Forgotten.is refl

pub returns-in-Unclear-clause-next : goal.returns-in-Unclear-clause-next
returns-in-Unclear-clause-next g c =
    let old = c.args.self.now in
    let new = c.next.new.self in
    hears_unclear c.args.response (asker old.access old.at old.token old.log.log.tries) (asker new.access new.at new.token new.log.log.tries) c.heard_of.result c.heard_of.ensures c.in-Unclear.is c.next.ensures.turned

pub returns-in-Unread-clause-next : goal.returns-in-Unread-clause-next
returns-in-Unread-clause-next g c =
    c.next-in-Unread.ensures.turned
