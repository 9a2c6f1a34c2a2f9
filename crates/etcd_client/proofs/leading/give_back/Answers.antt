use Rattle.std.proofs.Common.{rules, ◌≡◌, ◌∙◌, inl, inr, refl, sym, ap}
use Rattle.std.specs.Prelude.{Err}
use Rattle.etcd_json.specs.Replies.{revision_told}
use Rattle.etcd_client.specs.Exchanges.{revoke_question}
use Rattle.etcd_client.specs.declared.members.AskFault.TheVariants.{Memory}
use Rattle.etcd_client.specs.Told.{unread_by}
use Rattle.etcd_client.proofs.Exchanged.{asked_fault, asked_given, asked_unread}
use Rattle.etcd_client.proofs.leading.give_back.Goals as goal

pub returns-in_err-text : goal.returns-in_err-text
returns-in_err-text g c =
    let is : c.from_residual.result ≡ Err Memory = search rules in
    inr (is, refl)

pub returns-in_err-told : goal.returns-in_err-told
returns-in_err-told g c =
    let sent = c.deref.ensures.value ∙ c.in_ok-text.ensures in
    let fault = c.in_err-told.field-0.0 in
    let is : c.from_residual-in_err-told.result ≡ Err fault = search rules in
    rw is (inl (asked_fault (revoke_question c.args.lease) c.deref.result.now _ _ sent fault c.in_err-told.ensures.asked))

pub returns-in_err-revision_reply : goal.returns-in_err-revision_reply
returns-in_err-revision_reply g c =
    let sent = c.deref.ensures.value ∙ c.in_ok-text.ensures in
    let unread = c.in_err-revision_reply.field-0.0 in
    let is : c.from_residual-in_err-revision_reply.result ≡ Err (unread_by unread) = search rules in
    rw is (inl (asked_unread (revoke_question c.args.lease) c.deref.result.now _ _ sent unread c.in_ok-told.told.items _ c.in_ok-told.ensures.asked (sym (ap revision_told c.deref-2.ensures.value)) c.in_err-revision_reply.ensures))

pub returns : goal.returns
returns g c =
    let sent = c.deref.ensures.value ∙ c.in_ok-text.ensures in
    let read = sym (ap revision_told c.deref-2.ensures.value) ∙ c.in_ok-revision_reply.ensures in
    inl (asked_given (revoke_question c.args.lease) c.deref.result.now _ _ sent c.in_ok-told.told.items c.in_ok-revision_reply.field-0 c.in_ok-told.ensures.asked read)
