use Rattle.std.proofs.Common.{◌≡◌, ◌≤◌, ◌∙◌, ℕ, List, ap, length, sym, subst, arith}
use Rattle.std.proofs.lemmas.List.{length-map}
use Rattle.batch_file.specs.Frames.{lists, recovered}
use Rattle.state_file.specs.Standing.{IsMomentTold, until_of}
use Rattle.state_file.specs.Telling.{Tell, rules_of}
use Rattle.state_account.proofs.Accounted.{tells_any}
use Rattle.state_file.proofs.Compared.{wider}
use Rattle.state_account.proofs.account.account_in.Goals as goal

pub returns-clause-told : goal.returns-clause-told
returns-clause-told g c = λ left read torn.
    let batches = c.as_slice-batches.result.now in
    let registry = c.in-Ok.rules.registry in
    let are : lists batches ≡ recovered left = ap lists c.as_slice-batches.ensures.value ∙ sym read in
    record {
      registry = registry;
      told = tells_any left (lists batches) (rules_of registry) are c.in-Ok.ensures.told;
      wider = λ old tells. wider old registry (c.in-Ok.ensures.taken.1 (rules_of old) (subst (λ (bs : List (List ℕ)). Tell bs (rules_of old)) (sym are) tells));
      rules = c.in-Ok.ensures.spelled;
      answers = c.in_ok-restored.ensures.answers left (sym are);
      batches = sym (length-map batches (λ v. v.items)) ∙ ap (λ (bs : List (List ℕ)). length bs) are;
      torn = (let n = c.len.ensures in let all = ap length torn in omega (arith, n, all));
      moment_is = subst (λ (bs : List (List ℕ)). IsMomentTold bs c.in_ok-restored.restored.moment) are c.in_ok-restored.ensures.moment;
      later = subst (λ (bs : List (List ℕ)). until_of bs ≤ c.in_ok-restored.restored.moment) are c.in_ok-restored.ensures.later;
    }
