use Rattle.std.proofs.Common.{◌≡◌, Some, None, slice_index_or, arith}
use Rattle.hook_commands.specs.declared.way.Step.TheVariants.{Past, Jumping}
use Rattle.hook_commands.proofs.Ways.{arrived, gone_past, jumped}
use Rattle.hook_commands.proofs.way.way_to.Goals as goal

pub loop-at-preserved-in-Some-Past : goal.loop-at-preserved-in-Some-Past
loop-at-preserved-in-Some-Past c =
    let found : slice_index_or c.in_ok-steps.steps.items c.loop-at.at None ≡ Some (Past c.in-Some-Past.to) = cc (c.step_at.ensures, c.deref.ensures.value) in
    gone_past _ _ _ _ _ c.loop-at.invariant (rw found at (c.in_ok-steps.ensures.each c.loop-at.at (omega arith) c.loop-at-test.true))

pub loop-at-preserved : goal.loop-at-preserved
loop-at-preserved c =
    let found : slice_index_or c.in_ok-steps.steps.items c.loop-at.at None ≡ Some (Jumping c.in-Some-Jumping.to) = cc (c.step_at.ensures, c.deref.ensures.value) in
    rw c.in_ok-push-in-Some-Jumping.ensures.items
    (jumped _ _ _ _ _ c.loop-at.invariant (rw found at (c.in_ok-steps.ensures.each c.loop-at.at (omega arith) c.loop-at-test.true)))

pub returns : goal.returns
returns c =
    let there : c.loop-at.at ≡ c.args.slot = omega (arith, c.loop-at-test.false) in
    arrived _ _ _ (rw there at c.loop-at.invariant)
