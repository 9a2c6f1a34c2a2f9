use Rattle.std.proofs.Common.{rules, ◌≡◌, ◌∙◌, inl, inr, refl, sym, ap}
use Rattle.std.specs.Prelude.{Err}
use Rattle.etcd_json.specs.Replies.{revision_told}
use Rattle.etcd_client.specs.Exchanges.{compaction_question}
use Rattle.etcd_client.specs.declared.members.AskFault.TheVariants.{Memory}
use Rattle.etcd_client.specs.Told.{unread_by}
use Rattle.etcd_client.proofs.Exchanged.{asked_fault, asked_given, asked_unread}
use Rattle.etcd_client.proofs.client.EtcdCluster.ask_compaction.Goals as goal

pub returns-in_err-body-clause-asked : goal.returns-in_err-body-clause-asked
returns-in_err-body-clause-asked g c =
    let is : c.from_residual.result ≡ Err Memory = search rules in
    inr (is, refl)

pub returns-in_err-text-clause-asked : goal.returns-in_err-text-clause-asked
returns-in_err-text-clause-asked g c =
    let sent = c.deref.ensures.value ∙ c.in_ok-body.ensures in
    let fault = c.in_err-text.field-0.0 in
    let is : c.from_residual-in_err-text.result ≡ Err fault = search rules in
    rw is (inl (asked_fault (compaction_question c.args.version) c.deref.result.now _ _ sent fault c.in_err-text.ensures.asked))

pub returns-in_err-revision_reply-clause-asked : goal.returns-in_err-revision_reply-clause-asked
returns-in_err-revision_reply-clause-asked g c =
    let sent = c.deref.ensures.value ∙ c.in_ok-body.ensures in
    let unread = c.in_err-revision_reply.field-0.0 in
    let is : c.from_residual-in_err-revision_reply.result ≡ Err (unread_by unread) = search rules in
    rw is (inl (asked_unread (compaction_question c.args.version) c.deref.result.now _ _ sent unread c.in_ok-text.text.items _ c.in_ok-text.ensures.asked (sym (ap revision_told c.deref-2.ensures.value)) c.in_err-revision_reply.ensures))

pub returns-clause-asked : goal.returns-clause-asked
returns-clause-asked g c =
    let sent = c.deref.ensures.value ∙ c.in_ok-body.ensures in
    let read = sym (ap revision_told c.deref-2.ensures.value) ∙ c.in_ok-revision_reply.ensures in
    inl (asked_given (compaction_question c.args.version) c.deref.result.now _ _ sent c.in_ok-text.text.items c.in_ok-revision_reply.field-0 c.in_ok-text.ensures.asked read)
