use Rattle.std.proofs.Common.{◌≡◌, ◌↔◌, ℕ, List, Bool, Result, Ok, Err, Some, sym, subst, ◌∙◌}
use Rattle.narrowing.proofs.Names.{IfOk, IsTrue, RulesFact, rules_fact, StateFault, lists, IsOfRules, last_rules, rules_of, AreLess, AreNarrower}
use Rattle.narrowing.proofs.Less.{unread}
use Rattle.state_file.specs.BoundsLaws.{are_rules}
use Rattle.narrowing.proofs.comparing.is_narrower.Goals as goal

-- the batch tells the rules and no others
beside : (batches : List (List ℕ)) (batch : List ℕ) (told now : RulesFact) (r : Result Bool StateFault) → last_rules batches ≡ Some batch → IsOfRules batch told →
    ((others : RulesFact) → IsOfRules batch others → others ≡ told) → IfOk r (λ less. IsTrue less ↔ AreLess told now) → IfOk r (λ narrower. IsTrue narrower ↔ AreNarrower batches now)
beside batches batch told now (Err fault) at tells one exact = tt
beside batches batch told now (Ok less) at tells one exact = (
  λ yes. record { told = told; tells = (batch, at, tells); less = exact.0 yes },
  λ narrower.
      let same : Some narrower.tells.0 ≡ Some batch = sym narrower.tells.1 ∙ at in
      let here : narrower.tells.0 ≡ batch = cc in
      exact.1 (subst (λ (r : RulesFact). AreLess r now) (one narrower.told (subst (λ (b : List ℕ). IsOfRules b narrower.told) here narrower.tells.2)) narrower.less),
)

pub returns-clause-exact : goal.returns-clause-exact
returns-clause-exact c =
    subst (λ (now : RulesFact). IfOk c.are_less.result (λ narrower. IsTrue narrower ↔ AreNarrower (lists c.args.batches.now) now)) (are_rules c.args.registry.now c.in_ok-now.now c.in_ok-now.ensures)
    (beside (lists c.args.batches.now) c.in-Some.batch.now (rules_fact c.in-Ok.told) (rules_fact c.in_ok-now.now) c.are_less.result
    (sym c.in-Some.ensures) c.in-Ok.ensures.told c.in-Ok.ensures.one c.are_less.ensures.exact)

pub returns-in-Err-clause-exact : goal.returns-in-Err-clause-exact
returns-in-Err-clause-exact c =
    let batches = lists c.args.batches.now in
    let at : last_rules batches ≡ Some c.in-Some.batch.now = sym c.in-Some.ensures in
    subst (λ less. IfOk less (λ narrower. IsTrue narrower ↔ AreNarrower batches (rules_of c.args.registry.now))) (sym c.less_by.ensures)
    (unread batches c.in-Some.batch.now (rules_of c.args.registry.now) c.in-Err.fault at c.in-Err.ensures.refused)
