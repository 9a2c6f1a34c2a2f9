use Rattle.std.proofs.Common.{◌≡◌, ◌∙◌, ◌⊎◌, ⊎_elim, inl, inr, ℕ, List, Some, map, refl, sym, subst}
use Rattle.std.specs.Prelude.{IfErr, IfOk}
use Rattle.lifetime.proofs.Names.{RegistryRecord, hook_fact, IsPlanOf, RefusesPlan}
use Rattle.lifetime.proofs.Planning.{final_refused, gives_back, made_of, on_ok, over_refused, refuses_of, whole_front, whole_planned, whole_refused}
use Rattle.state_file.specs.Making.{StopsReading}
use Rattle.lifetime.proofs.plan.plan_of.Goals as goal

pub returns-in-Ok-clause-over : goal.returns-in-Ok-clause-over
returns-in-Ok-clause-over g c = on_ok _ c.plan_whole.result (rw c.in-Ok.is at c.prepare-source.ensures.over)

pub returns-in-Ok-clause-made : goal.returns-in-Ok-clause-made
returns-in-Ok-clause-made g c =
    let hooks = map hook_fact c.args.hooks.now in
    let makes = made_of c.args.registry hooks _ (g.S.ByteSource.told c.prepare-source.result.source) _ refl c.new.ensures c.in-Ok.prepared (rw c.in-Ok.is at c.prepare-source.ensures.makes) in
    whole_planned c.args.registry hooks _ c.in-Ok.prepared makes c.plan_whole.result (rw c.in-Ok.is at c.prepare-source.ensures.taken) c.plan_whole.ensures.prepared
    c.plan_whole.ensures.ended c.plan_whole.ensures.torn

pub returns-in-Ok-clause-refused : goal.returns-in-Ok-clause-refused
returns-in-Ok-clause-refused g c =
    let hooks = map hook_fact c.args.hooks.now in
    over_refused c.args.registry hooks (g.S.ByteSource.told c.prepare-source.result.source) _ c.plan_whole.result (rw c.in-Ok.is at c.prepare-source.ensures.over)
    (whole_refused c.args.registry hooks (g.S.ByteSource.told c.prepare-source.result.source) c.plan_whole.result c.plan_whole.ensures.memory)

pub returns-in-Ok-clause-front : goal.returns-in-Ok-clause-front
returns-in-Ok-clause-front g c =
    let hooks = map hook_fact c.args.hooks.now in
    let makes = made_of c.args.registry hooks _ (g.S.ByteSource.told c.prepare-source.result.source) _ refl c.new.ensures c.in-Ok.prepared (rw c.in-Ok.is at c.prepare-source.ensures.makes) in
    whole_front c.args.registry hooks _ c.in-Ok.prepared makes c.plan_whole.result (rw c.in-Ok.is at c.prepare-source.ensures.readable) c.plan_whole.ensures.prepared c.plan_whole.ensures.origin

pub returns-in-Again-clause-made : goal.returns-in-Again-clause-made
returns-in-Again-clause-made g c =
    let again = rw c.in-Again.is at c.refusal_of.ensures in
    let back = rw c.in-Err.is at c.prepare-source.ensures.back in
    let both : Some c.in-Again.registry ≡ Some c.args.registry = sym again.1 ∙ back (gives_back c.in-Err.not.fault again.0) in
    let same : c.in-Again.registry ≡ c.args.registry = cc in
    subst (λ (rules : RegistryRecord). IfOk c.plan_again.result.plan (IsPlanOf rules (map hook_fact c.args.hooks.now) (g.S.ByteSource.told c.plan_again.result.source))) same c.plan_again.ensures.made

pub returns-in-Again-clause-refused : goal.returns-in-Again-clause-refused
returns-in-Again-clause-refused g c =
    let again = rw c.in-Again.is at c.refusal_of.ensures in
    let back = rw c.in-Err.is at c.prepare-source.ensures.back in
    let both : Some c.in-Again.registry ≡ Some c.args.registry = sym again.1 ∙ back (gives_back c.in-Err.not.fault again.0) in
    let same : c.in-Again.registry ≡ c.args.registry = cc in
    subst (λ (rules : RegistryRecord). IfErr c.plan_again.result.plan (λ fault. StopsReading fault
    ⊎ (g.S.ByteSource.is_over c.plan_again.result.source × RefusesPlan rules (map hook_fact c.args.hooks.now) (g.S.ByteSource.told c.plan_again.result.source) fault))) same
    c.plan_again.ensures.refused

pub returns-in-Final-clause-refused : goal.returns-in-Final-clause-refused
returns-in-Final-clause-refused g c =
    let hooks = map hook_fact c.args.hooks.now in
    let told = g.S.ByteSource.told c.prepare-source.result.source in
    let final = rw c.in-Final.is at c.refusal_of.ensures in
    final_refused c.args.registry hooks told c.in-Err.not c.in-Final.fault _ final.0 final.1 (rw c.in-Err.is at c.prepare-source.ensures.back)
    (rw c.in-Err.is at c.prepare-source.ensures.hooked)
    (⊎_elim (λ stops. inl stops) (λ refuses. inr (refuses.0, refuses_of c.args.registry hooks told told _ refl c.new.ensures c.in-Err.not.fault refuses.1))
    (rw c.in-Err.is at c.prepare-source.ensures.refused))
