use Rattle.std.proofs.Common.{subst}
use Rattle.std.specs.Prelude.{Result}
use Rattle.http_call.specs.declared.call.Response.{Response}
use Rattle.etcd_client.specs.Tries.{Asker, IsSent, asker}
use Rattle.etcd_client.specs.declared.members.AskFault.{AskFault}
use Rattle.etcd_client.proofs.Tried.{asks_heard, asks_lost}
use Rattle.etcd_client.proofs.asking.Asking.ask_once.Goals as goal

pub returns-in-Ok-clause-once : goal.returns-in-Ok-clause-once
returns-in-Ok-clause-once g c =
    let old = c.args.self.now in
    let mid = c.send.new.self in
    let new = c.hear.new.self in
    let path = c.args.path.now in
    let body = c.args.body.now in
    let before : Asker = (asker old.access old.at old.token old.log.log.tries) in
    let between : Asker = (asker mid.access mid.at mid.token mid.log.log.tries) in
    let behind : Asker = (asker new.access new.at new.token new.log.log.tries) in
    let sent = subst (λ (r : Result Response AskFault). IsSent path body r before between) c.in-Ok.is c.send.ensures.sent in
    asks_heard path body before between behind c.in-Ok.response c.hear.result sent c.hear.ensures.next

pub returns-in-Err-clause-once : goal.returns-in-Err-clause-once
returns-in-Err-clause-once g c =
    let old = c.args.self.now in
    let mid = c.send.new.self in
    let new = c.next.new.self in
    let path = c.args.path.now in
    let body = c.args.body.now in
    let before : Asker = (asker old.access old.at old.token old.log.log.tries) in
    let between : Asker = (asker mid.access mid.at mid.token mid.log.log.tries) in
    let behind : Asker = (asker new.access new.at new.token new.log.log.tries) in
    let sent = subst (λ (r : Result Response AskFault). IsSent path body r before between) c.in-Err.is c.send.ensures.sent in
    asks_lost path body before between behind c.in-Err.field-0 sent c.next.ensures.turned
