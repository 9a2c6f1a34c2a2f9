use Rattle.std.proofs.Common.{refl}
use Rattle.state_file.proofs.Names.{One, hook_fact}
use Rattle.consent.specs.declared.change.Change.TheVariants.{HookSet}
use Rattle.state_file.proofs.Setting.{sets_new}
use Rattle.state_file.proofs.restored.Restored.install.Goals as goal

pub returns-in_ok-push-in-Ok-clause-set : goal.returns-in_ok-push-in-Ok-clause-set
returns-in_ok-push-in-Ok-clause-set g c =
    let hook = c.args.hook.now in
    sets_new g.H.HookHost c.args.self.now (record c.args.self.now { server = c.set_hook.new.self; hooks = c.push.new.self }) (hook_fact hook) (One (HookSet hook.name hook.version hook.code)) refl
    c.in-Ok.ensures.set c.in-Ok.ensures.noted c.in_ok-push-in-Ok.ensures refl c.requires.new
