use Rattle.std.proofs.Common.{rules, ◌≡◌, ◌∙◌, inl, inr, List, ℕ, refl, subst}
use Rattle.std.specs.Prelude.{Err, Ok, Option, Some}
use Rattle.etcd_json.specs.Requests.{TransactionFact, transaction_text}
use Rattle.etcd_client.specs.Asked.{past_asked}
use Rattle.etcd_client.specs.Exchanges.{Asks, reply_question}
use Rattle.etcd_client.specs.Told.{past_told, pieces_of, unread_by}
use Rattle.etcd_client.specs.declared.members.AskFault.TheVariants.{Memory}
use Rattle.etcd_client.proofs.Exchanged.{asks_fault, asks_given, asks_unread}
use Rattle.etcd_client.proofs.past.pieces_then.Goals as goal

pub returns-in_err-text : goal.returns-in_err-text
returns-in_err-text g c =
    let is : c.from_residual.result ≡ Err Memory = search rules in
    inr (is, refl)

pub returns-in_err-reply : goal.returns-in_err-reply
returns-in_err-reply g c =
    let D = g.M.Members in
    let known : Option ℕ = Some c.args.cluster in
    let transaction : TransactionFact = past_asked c.args.names.now.prefix.items c.args.wanted in
    let text : c.deref.result.now ≡ transaction_text transaction = c.deref.ensures.value ∙ c.in_ok-text.ensures in
    let before = D.exchanges c.args.members.now in
    let after = D.exchanges c.transact.new.members in
    let fault = c.in_err-reply.field-0.0 in
    let is : c.from_residual-in_err-reply.result ≡ Err fault = search rules in
    rw is (inl (asks_fault known transaction pieces_of (past_told c.args.names.now.prefix.items c.args.wanted.generation) before after fault
    (subst (λ (t : List ℕ). Asks (reply_question known t) (Err fault) before after) text c.in_err-reply.ensures)))

pub returns-in_err-past_told : goal.returns-in_err-past_told
returns-in_err-past_told g c =
    let D = g.M.Members in
    let known : Option ℕ = Some c.args.cluster in
    let transaction : TransactionFact = past_asked c.args.names.now.prefix.items c.args.wanted in
    let text : c.deref.result.now ≡ transaction_text transaction = c.deref.ensures.value ∙ c.in_ok-text.ensures in
    let before = D.exchanges c.args.members.now in
    let after = D.exchanges c.transact.new.members in
    let reply = c.in_ok-reply.reply in
    let unread = c.in_err-past_told.field-0.0 in
    let is : c.from_residual-in_err-past_told.result ≡ Err (unread_by unread) = search rules in
    rw is (inl (asks_unread known transaction pieces_of (past_told c.args.names.now.prefix.items c.args.wanted.generation) before after unread reply c.in_err-past_told.ensures
    (subst (λ (t : List ℕ). Asks (reply_question known t) (Ok reply) before after) text c.in_ok-reply.ensures)))

pub returns : goal.returns
returns g c =
    let D = g.M.Members in
    let known : Option ℕ = Some c.args.cluster in
    let transaction : TransactionFact = past_asked c.args.names.now.prefix.items c.args.wanted in
    let text : c.deref.result.now ≡ transaction_text transaction = c.deref.ensures.value ∙ c.in_ok-text.ensures in
    let before = D.exchanges c.args.members.now in
    let after = D.exchanges c.transact.new.members in
    let reply = c.in_ok-reply.reply in
    inl (asks_given known transaction pieces_of (past_told c.args.names.now.prefix.items c.args.wanted.generation) before after reply c.in_ok-past_told.field-0 c.in_ok-past_told.ensures
    (subst (λ (t : List ℕ). Asks (reply_question known t) (Ok reply) before after) text c.in_ok-reply.ensures))
