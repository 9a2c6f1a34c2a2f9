use Rattle.std.proofs.Common.{⊎_elim, inl, inr, take}
use Rattle.command_line.proofs.Telling.{no_trial}
use Rattle.command_line.proofs.state_performing.tried.Goals as goal

pub returns-in-Ok-clause-done : goal.returns-in-Ok-clause-done
returns-in-Ok-clause-done c =
    let source = c.plan_of-plan.result.source in
    (take source.at source.all.now, (c.in-Ok.plan, rw c.in-Ok.is at c.plan_of-plan.ensures.made, c.unwrap_or.ensures))

pub returns-in-Err-clause-refused : goal.returns-in-Err-clause-refused
returns-in-Err-clause-refused c =
    let source = c.plan_of-plan.result.source in
    no_trial c.args.registry c.args.path.now (take source.at source.all.now) c.in-Err.fault c.untried.result c.untried.ensures.unread c.untried.ensures.read
    (⊎_elim (λ stops. inl stops) (λ refuses. inr refuses.1) (rw c.in-Err.is at c.plan_of-plan.ensures.refused))
