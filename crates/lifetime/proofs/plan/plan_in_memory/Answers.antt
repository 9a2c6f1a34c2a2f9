use Rattle.std.proofs.Common.{◌≡◌, ◌↔◌, ◌∙◌, ⊎_elim, inl, inr, ℕ, List, Err, Some, map, rules, subst}
use Rattle.batch_file.specs.Frames.{IsReadable}
use Rattle.hook_chain.specs.contracts.chain.ChainHookHost.TheImpl as chain
use Rattle.lifetime.proofs.Names.{IsSome, hook_fact, recovered, rules_of, torn_of, until_of, HasLeftOfEach, IsNarrower}
use Rattle.lifetime.proofs.Planning.{left_front, left_planned, left_refused, made_of, not_exact, refuses_of, unnarrowed, whole_front, whole_planned, whole_refused}
use Rattle.state_file.specs.Comparing.{TakesRules}
use Rattle.lifetime.proofs.plan.plan_in_memory.Goals as goal

pub returns-in_err-left-clause-refused : goal.returns-in_err-left-clause-refused
returns-in_err-left-clause-refused c =
    let cause = c.in_err-left.field-0.0 in
    let is : c.from_residual.result ≡ Err cause = search rules in rw is (inr (inr (inl c.in_err-left.ensures.refused)))

-- WHERE IT IS NARROWED

pub returns-in-Some-clause-made : goal.returns-in-Some-clause-made
returns-in-Some-clause-made c =
    let exact : IsSome (Some c.in-Some.left) ↔ IsNarrower c.args.bytes.now (rules_of c.args.registry) = rw c.in-Some.is at c.in_ok-left.ensures.exact in
    let of : HasLeftOfEach chain.ghosts c.new.result c.args.bytes.now c.args.registry c.in-Some.left = rw c.in-Some.is at c.in_ok-left.ensures.left in
    let until : until_of c.in-Some.left.frames ≡ until_of (recovered c.args.bytes.now) = rw c.in-Some.is at c.in_ok-left.ensures.until in
    let torn : c.in-Some.left.torn.items ≡ torn_of c.args.bytes.now = rw c.in-Some.is at c.in_ok-left.ensures.torn in
    left_planned c.args.registry (map hook_fact c.args.hooks.now) c.args.bytes.now c.in-Some.left exact (rw c.new.ensures at of) until c.plan_left.result torn c.plan_left.ensures.made

pub returns-in-Some-clause-refused : goal.returns-in-Some-clause-refused
returns-in-Some-clause-refused c =
    let exact : IsSome (Some c.in-Some.left) ↔ IsNarrower c.args.bytes.now (rules_of c.args.registry) = rw c.in-Some.is at c.in_ok-left.ensures.exact in
    let of : HasLeftOfEach chain.ghosts c.new.result c.args.bytes.now c.args.registry c.in-Some.left = rw c.in-Some.is at c.in_ok-left.ensures.left in
    let until : until_of c.in-Some.left.frames ≡ until_of (recovered c.args.bytes.now) = rw c.in-Some.is at c.in_ok-left.ensures.until in
    left_refused c.args.registry (map hook_fact c.args.hooks.now) c.args.bytes.now c.in-Some.left exact (rw c.new.ensures at of) until c.plan_left.result c.plan_left.ensures.refused

pub returns-in-Some-clause-front : goal.returns-in-Some-clause-front
returns-in-Some-clause-front c =
    let exact : IsSome (Some c.in-Some.left) ↔ IsNarrower c.args.bytes.now (rules_of c.args.registry) = rw c.in-Some.is at c.in_ok-left.ensures.exact in
    let of : HasLeftOfEach chain.ghosts c.new.result c.args.bytes.now c.args.registry c.in-Some.left = rw c.in-Some.is at c.in_ok-left.ensures.left in
    let until : until_of c.in-Some.left.frames ≡ until_of (recovered c.args.bytes.now) = rw c.in-Some.is at c.in_ok-left.ensures.until in
    left_front c.args.registry (map hook_fact c.args.hooks.now) c.args.bytes.now c.in-Some.left exact (rw c.new.ensures at of) until c.plan_left.result c.plan_left.ensures.made

-- WHERE IT IS NOT

pub returns-in-Ok-clause-made : goal.returns-in-Ok-clause-made
returns-in-Ok-clause-made c =
    let bytes = c.args.bytes.now in
    let hooks = map hook_fact c.args.hooks.now in
    let whole = c.prepare-prepared.ensures.whole bytes c.new-source.ensures.whole in
    let over = rw c.in-Ok.is at c.prepare-prepared.ensures.over in
    let makes = made_of c.args.registry hooks _ bytes _ (over ∙ whole) c.new-2.ensures c.in-Ok.prepared (rw c.in-Ok.is at c.prepare-prepared.ensures.makes) in
    let takes = subst (λ (b : List ℕ). TakesRules (recovered b) (rules_of c.args.registry)) (over ∙ whole) (rw c.in-Ok.is at c.prepare-prepared.ensures.taken) in
    whole_planned c.args.registry hooks bytes c.in-Ok.prepared makes c.plan_whole.result takes c.plan_whole.ensures.prepared c.plan_whole.ensures.ended c.plan_whole.ensures.torn

pub returns-in-Ok-clause-refused : goal.returns-in-Ok-clause-refused
returns-in-Ok-clause-refused c = whole_refused c.args.registry (map hook_fact c.args.hooks.now) c.args.bytes.now c.plan_whole.result c.plan_whole.ensures.memory

pub returns-in-Ok-clause-front : goal.returns-in-Ok-clause-front
returns-in-Ok-clause-front c =
    let bytes = c.args.bytes.now in
    let hooks = map hook_fact c.args.hooks.now in
    let whole = c.prepare-prepared.ensures.whole bytes c.new-source.ensures.whole in
    let over = rw c.in-Ok.is at c.prepare-prepared.ensures.over in
    let makes = made_of c.args.registry hooks _ bytes _ (over ∙ whole) c.new-2.ensures c.in-Ok.prepared (rw c.in-Ok.is at c.prepare-prepared.ensures.makes) in
    let readable = subst (λ (b : List ℕ). IsReadable b) (over ∙ whole) (rw c.in-Ok.is at c.prepare-prepared.ensures.readable) in
    whole_front c.args.registry hooks bytes c.in-Ok.prepared makes c.plan_whole.result readable c.plan_whole.ensures.prepared c.plan_whole.ensures.origin

pub returns-in-Err-clause-refused : goal.returns-in-Err-clause-refused
returns-in-Err-clause-refused c =
    let bytes = c.args.bytes.now in
    let hooks = map hook_fact c.args.hooks.now in
    let exact : IsSome unnarrowed ↔ IsNarrower bytes (rules_of c.args.registry) = rw c.in_default.is at c.in_ok-left.ensures.exact in
    let whole = c.prepare-prepared.ensures.whole bytes c.new-source.ensures.whole in
    ⊎_elim (λ stops. inl stops)
    (λ refuses. inr (not_exact c.args.registry hooks bytes c.in-Err.not.fault exact
    (refuses_of c.args.registry hooks _ bytes _ (refuses.0 ∙ whole) c.new-2.ensures c.in-Err.not.fault refuses.1)))
    (rw c.in-Err.is at c.prepare-prepared.ensures.refused)
