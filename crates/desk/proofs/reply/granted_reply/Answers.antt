use Rattle.std.proofs.Common.{◌≡◌, ◌≤◌, ◌∙◌, arith, length, sym, subst}
use Rattle.messages.specs.Written.{Written, in_writing, reply_bytes}
use Rattle.desk.specs.Replies.{granted}
use Rattle.desk.proofs.Sizes.{bytes_given, granted_few, of_some}
use Rattle.desk.proofs.reply.granted_reply.Goals as goal

pub bytes_of-requires : goal.bytes_of-requires
bytes_of-requires c =
    let same : c.in_ok-reply.reply ≡ in_writing (granted c.args.reloaded) =
    of_some c.told.result _ _ (sym c.ok.ensures.value ∙ c.in_ok-reply.was) c.told.ensures in
    let few = granted_few c.args.reloaded (omega arith) (omega arith) in
    record { few = subst (λ (w : Written). length (reply_bytes w) ≤ 32768) (sym same) few }

pub returns : goal.returns
returns c =
    let same : c.in_ok-reply.reply ≡ in_writing (granted c.args.reloaded) =
    of_some c.told.result _ _ (sym c.ok.ensures.value ∙ c.in_ok-reply.was) c.told.ensures in
    bytes_given c.bytes_of.result c.ok-2.result c.in_ok-reply.reply (in_writing (granted c.args.reloaded)) c.ok-2.ensures.value same c.bytes_of.ensures
