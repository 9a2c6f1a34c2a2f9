use Rattle.std.proofs.Common.{rules, ◌≡◌, ◌∙◌, inl, inr, Bool, List, ℕ, refl, ap, subst}
use Rattle.std.specs.Prelude.{Err, Ok, Option, None, Some, option_map}
use Rattle.etcd_json.specs.Replies.{reply_fact}
use Rattle.etcd_json.specs.Requests.{TransactionFact, transaction_text}
use Rattle.etcd_client.specs.Asked.{leader_asked}
use Rattle.etcd_client.specs.Exchanges.{Asks, free_in, free_told, reply_question}
use Rattle.etcd_client.specs.declared.members.AskFault.TheVariants.{Memory}
use Rattle.etcd_client.specs.Told.{leader_told, unread_by}
use Rattle.etcd_client.proofs.Exchanged.{asks_fault, asks_given, asks_unread, unread_map}
use Rattle.etcd_client.proofs.leading.cluster_free.Goals as goal

pub returns-in_err-text : goal.returns-in_err-text
returns-in_err-text g c =
    let is : c.from_residual.result ≡ Err Memory = search rules in
    inr (is, refl)

pub returns-in_err-reply : goal.returns-in_err-reply
returns-in_err-reply g c =
    let D = g.M.Members in
    let known : Option ℕ = None in
    let transaction : TransactionFact = leader_asked c.args.names.now.prefix.items in
    let text : c.deref.result.now ≡ transaction_text transaction = c.deref.ensures.value ∙ c.in_ok-text.ensures in
    let before = D.exchanges c.args.members.now in
    let after = D.exchanges c.transact.new.members in
    let fault = c.in_err-reply.field-0.0 in
    let is : c.from_residual-in_err-reply.result ≡ Err fault = search rules in
    rw is (inl (asks_fault known transaction (λ (free : Option ℕ). free) free_told before after fault
    (subst (λ (t : List ℕ). Asks (reply_question known t) (Err fault) before after) text c.in_err-reply.ensures)))

pub returns-in_err-leader_told : goal.returns-in_err-leader_told
returns-in_err-leader_told g c =
    let D = g.M.Members in
    let known : Option ℕ = None in
    let transaction : TransactionFact = leader_asked c.args.names.now.prefix.items in
    let text : c.deref.result.now ≡ transaction_text transaction = c.deref.ensures.value ∙ c.in_ok-text.ensures in
    let before = D.exchanges c.args.members.now in
    let after = D.exchanges c.transact.new.members in
    let reply = c.in_ok-reply.reply in
    let unread = c.in_err-leader_told.field-0.0 in
    let is : c.from_residual-in_err-leader_told.result ≡ Err (unread_by unread) = search rules in
    rw is (inl (asks_unread known transaction (λ (free : Option ℕ). free) free_told before after unread reply
    (unread_map (λ (leads : Bool). leads) (λ (free : Option ℕ). free) (free_in reply.header.cluster) unread (leader_told (reply_fact reply)) c.in_err-leader_told.ensures)
    (subst (λ (t : List ℕ). Asks (reply_question known t) (Ok reply) before after) text c.in_ok-reply.ensures)))

pub returns-then-branch : goal.returns-then-branch
returns-then-branch g c =
    let D = g.M.Members in
    let known : Option ℕ = None in
    let transaction : TransactionFact = leader_asked c.args.names.now.prefix.items in
    let text : c.deref.result.now ≡ transaction_text transaction = c.deref.ensures.value ∙ c.in_ok-text.ensures in
    let before = D.exchanges c.args.members.now in
    let after = D.exchanges c.transact.new.members in
    let reply = c.in_ok-reply.reply in
    let leads = c.in_ok-leader_told.ensures ∙ ap (λ (b : Bool). Some b) c.if-branch.true in
    let is : free_told (reply_fact reply) ≡ Some None = ap (λ (o : Option Bool). option_map (free_in reply.header.cluster) o) leads in
    inl (asks_given known transaction (λ (free : Option ℕ). free) free_told before after reply None is
    (subst (λ (t : List ℕ). Asks (reply_question known t) (Ok reply) before after) text c.in_ok-reply.ensures))

pub returns : goal.returns
returns g c =
    let D = g.M.Members in
    let known : Option ℕ = None in
    let transaction : TransactionFact = leader_asked c.args.names.now.prefix.items in
    let text : c.deref.result.now ≡ transaction_text transaction = c.deref.ensures.value ∙ c.in_ok-text.ensures in
    let before = D.exchanges c.args.members.now in
    let after = D.exchanges c.transact.new.members in
    let reply = c.in_ok-reply.reply in
    let leads = c.in_ok-leader_told.ensures ∙ ap (λ (b : Bool). Some b) c.if-branch.false in
    let is : free_told (reply_fact reply) ≡ Some (Some reply.header.cluster) = ap (λ (o : Option Bool). option_map (free_in reply.header.cluster) o) leads in
    inl (asks_given known transaction (λ (free : Option ℕ). free) free_told before after reply (Some reply.header.cluster) is
    (subst (λ (t : List ℕ). Asks (reply_question known t) (Ok reply) before after) text c.in_ok-reply.ensures))
