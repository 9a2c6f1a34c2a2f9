use Rattle.std.proofs.Common.{◌∙◌, ℕ, ap, sym}
use Rattle.std.specs.Global.{Vec}
use Rattle.http_call.proofs.Exchanged.{exchanged, nothing_left}
use Rattle.http_call.proofs.call.Caller.exchange.Goals as goal

pub returns-clause-exchanged : goal.returns-clause-exchanged
returns-clause-exchanged g c =
    exchanged g.S.Write.contents g.S.Read.remaining c.args.request.now c.args.self.now c.send.new.self c.answer.new.self c.answer.result c.in_ok-send.ensures.sent
    c.in_ok-send.ensures.client
    (ap (λ (v : Vec ℕ). v.items) c.send.ensures.unread ∙ sym c.as_slice.ensures.value
    ∙ nothing_left c.as_slice.result.now c.is_empty.result c.is_empty.ensures c.if-not-is_empty.false)
    c.answer.ensures.answers
