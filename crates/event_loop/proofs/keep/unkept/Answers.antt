use Rattle.event_loop.proofs.Kept.{none_unkept, nothing_unkept, something_unkept, not_empty}
use Rattle.event_loop.proofs.keep.unkept.Goals as goal

pub returns-in_default-clause-none : goal.returns-in_default-clause-none
returns-in_default-clause-none g c = λ journey reached. none_unkept journey.world.kept journey.world.history (c.in_default.ensures.unkept journey reached)

pub returns-then-is_empty-clause-none : goal.returns-then-is_empty-clause-none
returns-then-is_empty-clause-none g c = λ journey reached.
    nothing_unkept c.in-Some.batch.now.facts journey.world.kept journey.world.history (c.is_empty.ensures.0 c.if-is_empty.true) (c.in-Some.ensures.unkept journey reached)

pub returns-clause-some : goal.returns-clause-some
returns-clause-some g c = λ journey reached.
    something_unkept journey.world c.in-Some.batch.now.facts (not_empty _ _ c.is_empty.ensures c.if-is_empty.false) (c.in-Some.ensures.unkept journey reached)
