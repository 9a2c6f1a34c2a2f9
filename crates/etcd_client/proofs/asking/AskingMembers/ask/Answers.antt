use Rattle.std.proofs.Common.{refl, sym, subst}
use Rattle.etcd_client.specs.Tries.{Asker, AsksKnown, asker}
use Rattle.etcd_client.proofs.Tried.{right_of, same_asker}
use Rattle.etcd_client.proofs.asking.AskingMembers.ask.Goals as goal

pub returns-clause-refused : goal.returns-clause-refused
returns-clause-refused g c =
    let old = c.args.self.now in
    let mid = c.ask_known-told.new.self in
    right_of c.args.path.now c.args.body.now c.ask_known-told.result (asker old.access old.at old.token old.log.log.tries) (asker mid.access mid.at mid.token mid.log.log.tries) c.ask_known-told.ensures.known

pub returns-clause-known : goal.returns-clause-known
returns-clause-known g c =
    let old = c.args.self.now in
    let mid = c.ask_known-told.new.self in
    let same = same_asker mid.access mid.access mid.at mid.at mid.token mid.token mid.log.log.tries c.asked.new.self.log.tries refl refl refl c.asked.ensures.tries in
    subst (λ (a : Asker). AsksKnown c.args.path.now c.args.body.now c.ask_known-told.result (asker old.access old.at old.token old.log.log.tries) a) (sym same) c.ask_known-told.ensures.known
