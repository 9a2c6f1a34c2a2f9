use Rattle.std.proofs.Common.{rules, ◌≡◌, ◌∙◌, refl, sym, ap}
use Rattle.std.specs.Prelude.{Err}
use Rattle.etcd_json.specs.Replies.{transaction_told}
use Rattle.etcd_client.specs.Exchanges.{reply_question}
use Rattle.etcd_client.specs.Told.{unread_by}
use Rattle.etcd_client.proofs.Exchanged.{asked_fault, asked_given, asked_no_reply, asked_none, other_read, reply_read}
use Rattle.etcd_client.proofs.leading.transact.Goals as goal

pub returns-in_err-told : goal.returns-in_err-told
returns-in_err-told g c =
    let fault = c.in_err-told.field-0.0 in
    let is : c.from_residual.result ≡ Err fault = search rules in
    rw is (asked_fault (reply_question c.args.known c.args.text.now) c.args.text.now _ _ refl fault c.in_err-told.ensures.asked)

pub returns-in_err-reply : goal.returns-in_err-reply
returns-in_err-reply g c =
    let unread = c.in_err-reply.field-0.0 in
    let is : c.from_residual-in_err-reply.result ≡ Err (unread_by unread) = search rules in
    rw is (asked_no_reply c.args.known c.args.text.now c.in_ok-told.told.items _ _ unread _ c.in_ok-told.ensures.asked (sym (ap transaction_told c.deref.ensures.value)) c.in_err-reply.ensures)

pub returns-then-is_other : goal.returns-then-is_other
returns-then-is_other g c =
    let text = c.in_ok-told.told.items in
    let reply = c.in_ok-reply.reply in
    let told = sym (ap transaction_told c.deref.ensures.value) ∙ c.in_ok-reply.ensures in
    asked_none (reply_question c.args.known c.args.text.now) c.args.text.now _ _ refl text (c.turn.ensures ∙ c.in_ok-told.ensures.asked)
    (other_read c.args.known text reply told (sym c.is_other.ensures ∙ c.if-is_other.true))

pub returns : goal.returns
returns g c =
    let text = c.in_ok-told.told.items in
    let reply = c.in_ok-reply.reply in
    let told = sym (ap transaction_told c.deref.ensures.value) ∙ c.in_ok-reply.ensures in
    asked_given (reply_question c.args.known c.args.text.now) c.args.text.now _ _ refl text reply c.in_ok-told.ensures.asked
    (reply_read c.args.known text reply told (sym c.is_other.ensures ∙ c.if-is_other.false))
