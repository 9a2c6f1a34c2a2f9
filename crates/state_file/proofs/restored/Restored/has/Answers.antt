use Rattle.std.proofs.Common.{◌≡◌, ◌∙◌, Some, sym, ap}
use Rattle.state_file.proofs.Names.{hook_fact, hook_named}
use Rattle.state_file.proofs.Setting.{named_is}
use Rattle.state_file.proofs.restored.Restored.has.Goals as goal

pub returns-then-is_of-clause-there : goal.returns-then-is_of-clause-there
returns-then-is_of-clause-there g c =
    let hook = hook_fact c.args.hook.now in
    let found : hook_named hook.name c.args.self.now.hooks ≡ Some c.in-Some.set.now = sym c.in-Some.ensures in
    let same = c.is_of.ensures.0 c.if-is_of.true in
    found ∙ ap Some (named_is hook c.args.self.now.hooks c.in-Some.set.now found same.0 same.1)
