use Rattle.std.proofs.Common.{rules, ◌≡◌, ◌∙◌, inl, inr, List, ℕ, refl, subst}
use Rattle.std.specs.Prelude.{Err, Some}
use Rattle.etcd_json.specs.Requests.{transaction_text}
use Rattle.etcd_client.specs.Asked.{lead_asked}
use Rattle.etcd_client.specs.Exchanges.{Asks, reply_question}
use Rattle.etcd_client.specs.declared.members.AskFault.TheVariants.{Memory}
use Rattle.etcd_client.proofs.leading.take_lead.Goals as goal

pub returns-in_err-text : goal.returns-in_err-text
returns-in_err-text g c =
    let is : c.from_residual.result ≡ Err Memory = search rules in
    inr (is, refl)

pub returns : goal.returns
returns g c =
    let D = g.M.Members in
    let text : c.deref.result.now ≡ transaction_text (lead_asked c.args.names.now.prefix.items c.args.lease) = c.deref.ensures.value ∙ c.in_ok-text.ensures in
    inl (subst (λ (t : List ℕ). Asks (reply_question (Some c.args.cluster) t) c.transact.result (D.exchanges c.args.members.now) (D.exchanges c.transact.new.members))
    text c.transact.ensures)
