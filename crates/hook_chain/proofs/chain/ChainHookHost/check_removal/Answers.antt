use Rattle.std.proofs.Common.{sym, ◌∙◌}
use Rattle.std.proofs.lemmas.List.Elements.{All-contains}
use Rattle.hook_host.specs.Names.{IsHookName}
use Rattle.hook_chain.specs.Chains.{hook_names}
use Rattle.hook_chain.specs.ChainLaws.{contains_name}
use Rattle.hook_chain.proofs.chain.ChainHookHost.check_removal.Goals as goal

pub returns-then-has-clause-named : goal.returns-then-has-clause-named
returns-then-has-clause-named c =
    All-contains IsHookName (hook_names c.args.self.now) c.args.name.now c.has.ensures.names.each
    (contains_name c.args.name.now c.args.self.now (sym c.has.ensures.value ∙ c.if-has.true))

pub returns-then-has-clause-was_there : goal.returns-then-has-clause-was_there
returns-then-has-clause-was_there c = contains_name c.args.name.now c.args.self.now (sym c.has.ensures.value ∙ c.if-has.true)
