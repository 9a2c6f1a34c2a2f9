use Rattle.std.proofs.Common.{List, subst, sym, ◌∙◌}
use Rattle.std.specs.Vec.{vec_capacity}
use Rattle.hook_chain.specs.Chains.{HoldsAll, Named}
use Rattle.hook_chain.specs.TurnLaws.{name_short, turn_on}
use Rattle.hook_chain.proofs.chain.ChainHookHost.explain.Goals as goal

pub judge-requires : goal.judge-requires
judge-requires c =
    let holds = subst (λ (hooks : List Named). HoldsAll hooks (vec_capacity c.self.inside.hooks)) (sym c.deref-hook-items.ensures.value) c.self.invariant in
    name_short c.deref-hook-items.result.now (vec_capacity c.self.inside.hooks) c.loop-hook.hook-index c.hook-item.result holds c.loop-hook-test.true
    c.hook-item.is

pub loop-hook-preserved : goal.loop-hook-preserved
loop-hook-preserved c =
    rw (c.in_ok-left.ensures.told, c.in_ok-left.ensures.left)
    (turn_on c.args.ask.now c.loop-hook.left c.hook-item.result c.deref-hook-items.result.now c.loop-hook.verdicts c.loop-hook.hook-index
    c.loop-hook-test.true c.hook-item.is ∙ c.loop-hook.invariant)
