use Rattle.std.proofs.Common.{rules, ◌≡◌, ◌∙◌, inl, inr, List, ℕ, refl, subst}
use Rattle.std.specs.Prelude.{Err, Ok, Option, Some}
use Rattle.etcd_json.specs.Requests.{TransactionFact, transaction_text}
use Rattle.etcd_cluster.specs.Stands.{change_fact}
use Rattle.etcd_cluster.specs.declared.change.Answer.{Answer}
use Rattle.etcd_client.specs.Asked.{change_asked}
use Rattle.etcd_client.specs.Told.{change_told, unread_by}
use Rattle.etcd_client.specs.Exchanges.{Asks, reply_question}
use Rattle.etcd_client.specs.declared.members.AskFault.TheVariants.{Memory}
use Rattle.etcd_client.proofs.Exchanged.{asks_fault, asks_given, asks_unread}
use Rattle.etcd_client.proofs.client.EtcdCluster.change.Goals as goal

pub returns-in_err-text-clause-asked : goal.returns-in_err-text-clause-asked
returns-in_err-text-clause-asked g c =
    let is : c.from_residual.result ≡ Err Memory = search rules in
    inr (is, refl)

pub returns-in_err-reply-clause-asked : goal.returns-in_err-reply-clause-asked
returns-in_err-reply-clause-asked g c =
    let D = g.M.Members in
    let old = c.args.self.now in
    let known : Option ℕ = Some old.led.cluster in
    let transaction : TransactionFact = change_asked old.names.prefix.items old.led.server old.led.cluster (change_fact c.args.change.now) in
    let text : c.deref.result.now ≡ transaction_text transaction = c.deref.ensures.value ∙ c.in_ok-text.ensures in
    let before = D.exchanges old.members in
    let after = D.exchanges c.transact.new.members in
    let fault = c.in_err-reply.field-0.0 in
    let is : c.from_residual-in_err-reply.result ≡ Err fault = search rules in
    rw is (inl (asks_fault known transaction (λ (answer : Answer). answer) (change_told old.names.prefix.items) before after fault
    (subst (λ (t : List ℕ). Asks (reply_question known t) (Err fault) before after) text c.in_err-reply.ensures)))

pub returns-in_err-change_told-clause-asked : goal.returns-in_err-change_told-clause-asked
returns-in_err-change_told-clause-asked g c =
    let D = g.M.Members in
    let old = c.args.self.now in
    let known : Option ℕ = Some old.led.cluster in
    let transaction : TransactionFact = change_asked old.names.prefix.items old.led.server old.led.cluster (change_fact c.args.change.now) in
    let text : c.deref.result.now ≡ transaction_text transaction = c.deref.ensures.value ∙ c.in_ok-text.ensures in
    let before = D.exchanges old.members in
    let after = D.exchanges c.transact.new.members in
    let reply = c.in_ok-reply.reply in
    let unread = c.in_err-change_told.field-0.0 in
    let is : c.from_residual-in_err-change_told.result ≡ Err (unread_by unread) = search rules in
    rw is (inl (asks_unread known transaction (λ (answer : Answer). answer) (change_told old.names.prefix.items) before after unread reply c.in_err-change_told.ensures
    (subst (λ (t : List ℕ). Asks (reply_question known t) (Ok reply) before after) text c.in_ok-reply.ensures)))

pub returns-clause-asked : goal.returns-clause-asked
returns-clause-asked g c =
    let D = g.M.Members in
    let old = c.args.self.now in
    let known : Option ℕ = Some old.led.cluster in
    let transaction : TransactionFact = change_asked old.names.prefix.items old.led.server old.led.cluster (change_fact c.args.change.now) in
    let text : c.deref.result.now ≡ transaction_text transaction = c.deref.ensures.value ∙ c.in_ok-text.ensures in
    let before = D.exchanges old.members in
    let after = D.exchanges c.transact.new.members in
    let reply = c.in_ok-reply.reply in
    inl (asks_given known transaction (λ (answer : Answer). answer) (change_told old.names.prefix.items) before after reply c.in_ok-change_told.field-0 c.in_ok-change_told.ensures
    (subst (λ (t : List ℕ). Asks (reply_question known t) (Ok reply) before after) text c.in_ok-reply.ensures))
