use Rattle.std.proofs.Common.{◌≡◌, ◌∙◌, ℕ, List, Some, refl, ap, sym, subst}
use Rattle.narrowing.proofs.Names.{lists, recovered, rules_fact, rules_of, EndsOfEach, TellLeft, under_in}
use Rattle.narrowing.specs.Left.{Under}
use Rattle.state_file.specs.BoundsLaws.{are_rules}
use Rattle.rules_beside.specs.Beside.{beside}
use Rattle.state_file.specs.Telling.{rules_told}
use Rattle.narrowing.proofs.narrowed.left_of.Goals as goal

pub returns-clause-left : goal.returns-clause-left
returns-clause-left g c = λ left read torn.
    let rules = c.args.registry.now in
    let told = rules_fact c.in_ok-told.told in
    let batches : lists c.as_slice-batches.result.now ≡ recovered left = ap lists c.as_slice-batches.ensures.value ∙ sym read in
    let tells : rules_told (recovered left) ≡ Some told = ap rules_told (sym batches) ∙ c.in_ok-told.ensures.told in
    let now : rules_fact c.in_ok-now.now ≡ rules_of rules = are_rules rules c.in_ok-now.now c.in_ok-now.ensures in
    let owners : c.in_ok-owners.owners ≡ beside told (rules_of rules) = c.in_ok-owners.ensures ∙ ap (beside told) now in
    let under : Under = record { rules = rules; owners = c.in_ok-owners.owners } in
    let same : under ≡ under_in left rules = rw (owners, tells) refl in (
      subst (λ (u : Under). EndsOfEach g.H.HookHost c.args.host left u c.in_ok-ended.ended) same (c.in_ok-ended.ensures.ends left read torn),
      subst (λ (u : Under). TellLeft (recovered left) u c.in_ok-frames.frames) same
          (subst (λ (bs : List (List ℕ)). TellLeft bs under c.in_ok-frames.frames) batches c.in_ok-frames.ensures.left),
    )
