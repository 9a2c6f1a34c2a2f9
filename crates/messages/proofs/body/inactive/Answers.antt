use Rattle.std.proofs.Common.{rules, refl}
use Rattle.messages.specs.Reply.Body.{Inactive}
use Rattle.messages.proofs.Printing.{says}
use Rattle.messages.proofs.body.inactive.Goals as goal

pub returns : goal.returns
returns c = says (Inactive) _ _ c.finish.result refl (search rules) c.finish.ensures
