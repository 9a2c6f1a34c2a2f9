use Rattle.std.proofs.Common.{refl}
use Rattle.hook_page.proofs.Runs.{safe_is_safe}
use Rattle.hook_page.proofs.accepted.Goals as goal

pub returns : goal.returns
returns c = λ _. safe_is_safe c.args.layout c.in-Ok.program c.args.bytes.now c.in-Ok.ensures.found (c.in-Ok-verify.ensures.safe refl)
