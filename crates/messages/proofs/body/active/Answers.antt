use Rattle.std.proofs.Common.{rules, refl}
use Rattle.messages.specs.Live.{live_body}
use Rattle.messages.proofs.Printing.{says}
use Rattle.messages.proofs.body.active.Goals as goal

pub returns : goal.returns
returns c =
    let token = c.args.token in
    says (live_body token) _ _ c.finish.result refl (search rules) c.finish.ensures
