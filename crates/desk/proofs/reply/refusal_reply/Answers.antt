use Rattle.std.proofs.Common.{◌≡◌, ◌≤◌, ◌∙◌, length, sym, subst}
use Rattle.messages.specs.Written.{Written, in_writing, reply_bytes}
use Rattle.desk.specs.Replies.{refusal_of}
use Rattle.desk.proofs.Sizes.{bytes_given, of_some, refusal_few}
use Rattle.desk.proofs.reply.refusal_reply.Goals as goal

pub bytes_of-requires : goal.bytes_of-requires
bytes_of-requires c =
    let same : c.in_ok-reply.reply ≡ in_writing (refusal_of c.args.why) =
    of_some c.refusal_of.result _ _ (sym c.ok.ensures.value ∙ c.in_ok-reply.was) c.refusal_of.ensures in
    let few = refusal_few c.args.why (c.has_short_texts.ensures.0 c.if-not-has_short_texts.false) in
    record { few = subst (λ (w : Written). length (reply_bytes w) ≤ 32768) (sym same) few }

pub returns : goal.returns
returns c =
    let same : c.in_ok-reply.reply ≡ in_writing (refusal_of c.args.why) =
    of_some c.refusal_of.result _ _ (sym c.ok.ensures.value ∙ c.in_ok-reply.was) c.refusal_of.ensures in
    bytes_given c.bytes_of.result c.ok-2.result c.in_ok-reply.reply (in_writing (refusal_of c.args.why)) c.ok-2.ensures.value same c.bytes_of.ensures
