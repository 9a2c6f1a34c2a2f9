use Rattle.std.proofs.Common.{rules, refl}
use Rattle.messages.specs.Reply.Body.{Failure}
use Rattle.messages.proofs.Printing.{says}
use Rattle.messages.proofs.body.failure.Goals as goal

pub returns : goal.returns
returns c = says (Failure c.args.error) _ _ c.finish.result refl (search rules) c.finish.ensures
