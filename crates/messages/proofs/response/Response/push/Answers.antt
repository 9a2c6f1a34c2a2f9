use Rattle.std.proofs.Common.{rules, ◌≡◌, ◌++◌, option_copied, ap, ◌∙◌}
use Rattle.messages.specs.Written.{reply_bytes}
use Rattle.messages.proofs.response.Response.push.Goals as goal

pub returns-clause-items : goal.returns-clause-items
returns-clause-items c =
    let same : ◌≡◌ (record { status = c.self.inside.status; location = option_copied c.location.result; body = option_copied c.body.result }) c.args.self.now = search rules in
    c.put_reply.ensures.items ∙ ap (λ reply. c.args.out.now.items ++ reply_bytes reply) same
