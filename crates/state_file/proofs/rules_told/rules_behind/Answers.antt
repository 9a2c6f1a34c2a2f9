use Rattle.std.proofs.Common.{◌≡◌, ◌↔◌, ℕ, List, Err, Some, rules, sym, subst}
use Rattle.state_file.proofs.Names.{IsTrue, lists, RulesFact, rules_fact, last_rules, TakesRules, Tell, tell_in}
use Rattle.state_file.specs.BoundsLaws.{are_rules}
use Rattle.state_file.specs.Comparing.{RefuseBeside, RefuseRules}
use Rattle.state_file.specs.declared.fault.StateFault.{StateFault}
use Rattle.state_file.specs.declared.fault.StateFault.TheVariants.{Memory, NoRules, TooLong}
use Rattle.state_file.proofs.rules_told.rules_behind.Goals as goal

pub returns-clause-taken : goal.returns-clause-taken
returns-clause-taken c =
    let batches = lists c.args.batches.now in
    let is : last_rules batches ≡ Some c.in-Some.batch.now = sym c.in-Some.ensures in
    subst (λ (r : RulesFact). TakesRules batches r) (are_rules c.args.registry.now c.in_ok-rules.rules c.in_ok-rules.ensures)
    (c.begin_with_rules.ensures.0 c.if-not-begin_with_rules.false, λ told tells. c.in_ok-told.ensures.wide told (tell_in batches c.in-Some.batch.now told is tells))

pub returns-clause-told : goal.returns-clause-told
returns-clause-told c =
    let batches = lists c.args.batches.now in
    let is : last_rules batches ≡ Some c.in-Some.batch.now = sym c.in-Some.ensures in
    let told = c.in_ok-told.ensures.told in
    subst (λ (r : RulesFact). IsTrue c.in_ok-told.told ↔ Tell batches r) (are_rules c.args.registry.now c.in_ok-rules.rules c.in_ok-rules.ensures)
    (λ yes. (c.in-Some.batch.now, is, told.0 yes), λ tells. told.1 (tell_in batches c.in-Some.batch.now (rules_fact c.in_ok-rules.rules) is tells))

-- what is refused beside the batch that tells rules last is refused behind all of them
refused_behind : (batches : List (List ℕ)) (batch : List ℕ) (now : RulesFact) (fault : StateFault) → last_rules batches ≡ Some batch →
    RefuseBeside batch now fault → RefuseRules batches now fault
refused_behind batches batch now Memory is refused = tt
refused_behind batches batch now TooLong is refused = absurd refused.2
refused_behind batches batch now NoRules is refused = absurd refused.2
refused_behind batches batch now _ is refused = (batch, is, refused)

pub returns-in_err-told-clause-refused : goal.returns-in_err-told-clause-refused
returns-in_err-told-clause-refused c =
    let batches = lists c.args.batches.now in
    let is : last_rules batches ≡ Some c.in-Some.batch.now = sym c.in-Some.ensures in
    let passed : c.from_residual-in_err-told.result ≡ Err c.in_err-told.field-0.0 = search rules in
    rw passed (subst (λ (r : RulesFact). RefuseRules batches r c.in_err-told.field-0.0) (are_rules c.args.registry.now c.in_ok-rules.rules c.in_ok-rules.ensures)
    (refused_behind batches c.in-Some.batch.now (rules_fact c.in_ok-rules.rules) c.in_err-told.field-0.0 is c.in_err-told.ensures.refused))
