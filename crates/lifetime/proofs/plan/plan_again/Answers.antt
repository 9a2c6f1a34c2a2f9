use Rattle.std.proofs.Common.{◌≡◌, ◌∙◌, ◌++◌, ◌⊎◌, inl, ℕ, List, map, sym, ap, subst}
use Rattle.std.specs.Prelude.{IfErr, IfOk}
use Rattle.lifetime.proofs.Names.{hook_fact, IsPlanOf, RefusesPlan, StateFault}
use Rattle.lifetime.proofs.Planning.{on_ok, over_refused, unread_stops}
use Rattle.state_file.specs.Making.{StopsReading}
use Rattle.state_keeper.specs.Starting.{HasFront}
use Rattle.lifetime.proofs.plan.plan_again.Goals as goal

pub returns-in-Ok-clause-over : goal.returns-in-Ok-clause-over
returns-in-Ok-clause-over g c = on_ok _ c.plan_in_memory.result c.in-Ok.ensures.over

pub returns-in-Ok-clause-made : goal.returns-in-Ok-clause-made
returns-in-Ok-clause-made g c =
    let same = c.in-Ok.ensures.read ∙ ap (λ (t : List ℕ). t ++ c.in-Ok.bytes.items) c.rewind.ensures.told ∙ sym c.deref.ensures.value in
    subst (λ (b : List ℕ). IfOk c.plan_in_memory.result (IsPlanOf c.args.registry (map hook_fact c.args.hooks.now) b)) (sym same) c.plan_in_memory.ensures.made

pub returns-in-Ok-clause-refused : goal.returns-in-Ok-clause-refused
returns-in-Ok-clause-refused g c =
    let same = c.in-Ok.ensures.read ∙ ap (λ (t : List ℕ). t ++ c.in-Ok.bytes.items) c.rewind.ensures.told ∙ sym c.deref.ensures.value in
    let hooks = map hook_fact c.args.hooks.now in
    over_refused c.args.registry hooks _ _ c.plan_in_memory.result c.in-Ok.ensures.over
    (subst (λ (b : List ℕ). IfErr c.plan_in_memory.result (λ fault. StopsReading fault ⊎ RefusesPlan c.args.registry hooks b fault)) (sym same) c.plan_in_memory.ensures.refused)

pub returns-in-Ok-clause-front : goal.returns-in-Ok-clause-front
returns-in-Ok-clause-front g c =
    let same = c.in-Ok.ensures.read ∙ ap (λ (t : List ℕ). t ++ c.in-Ok.bytes.items) c.rewind.ensures.told ∙ sym c.deref.ensures.value in
    subst (λ (b : List ℕ). IfOk c.plan_in_memory.result (λ plan. HasFront b plan.origin plan.prepared.front)) (sym same) c.plan_in_memory.ensures.front

pub returns-in-Err-clause-refused : goal.returns-in-Err-clause-refused
returns-in-Err-clause-refused g c = inl (subst (λ (f : StateFault). StopsReading f) (sym c.from.ensures) (unread_stops c.in-Err.fault c.in-Err.ensures.refused))
