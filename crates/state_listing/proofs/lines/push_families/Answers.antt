use Rattle.std.proofs.Common.{◌≡◌, ◌∙◌, ◌∷◌, ◌==◌, ◌||◌, true, false, not, ap, arith}
use Rattle.std.proofs.lemmas.Bool.Decides.{nat_tests}
use Rattle.std.proofs.lemmas.Grind.{common_steps}
use Rattle.std.specs.BTreeSet.{contains}
use Rattle.std.specs.Ordering.{nat_cmp}
use Rattle.consent.specs.RecordFacts.{record_fact}
use Rattle.rules_codec.specs.Facts.{rules_fact}
use Rattle.state_listing.specs.Lines.{family_line}
use Rattle.state_listing.proofs.Families.{is_seen, or_flip, seen_again, told_again, told_first}
use Rattle.state_listing.proofs.lines.push_families.Goals as goal

pub loop-rest-preserved-in_ok-push_family : goal.loop-rest-preserved-in_ok-push_family
loop-rest-preserved-in_ok-push_family c =
    let family = (record_fact c.kept-item.result).family in
    let before = c.loop-rest.invariant in
    let added : c.in_ok-insert.field-0 ≡ not (is_seen family before.0) = c.in_ok-insert.ensures.added ∙ ap not (before.1 family) in
    let test = c.if-branch.true in
    let unseen : is_seen family before.0 ≡ false = grind (arith, nat_tests, added, test) in (
      family ∷ before.0,
      λ q. (let more : contains nat_cmp c.insert.new.self q ≡ (is_seen q before.0 || (family == q)) = grind (arith, common_steps, before.1 q, c.in_ok-insert.ensures.updates.0 q) in more ∙ or_flip (is_seen q before.0) (family == q)),
      told_first record_fact (family_line (rules_fact c.args.rules.now)) c.loop-rest.lines.items _ before.0 c.loop-rest.rest.now c.kept-item.result _ c.in-len1-up.len_at_least c.kept-item.is before.2 unseen _ c.in_ok-push_family.ensures,
    )

pub loop-rest-preserved : goal.loop-rest-preserved
loop-rest-preserved c =
    let family = (record_fact c.kept-item.result).family in
    let before = c.loop-rest.invariant in
    let added : c.in_ok-insert.field-0 ≡ not (is_seen family before.0) = c.in_ok-insert.ensures.added ∙ ap not (before.1 family) in
    let test = c.if-branch.false in
    let again : is_seen family before.0 ≡ true = grind (arith, nat_tests, added, test) in (
      before.0,
      λ q. (let more : contains nat_cmp c.insert.new.self q ≡ (is_seen q before.0 || (family == q)) = grind (arith, common_steps, before.1 q, c.in_ok-insert.ensures.updates.0 q) in more ∙ seen_again family q before.0 again),
      told_again record_fact (family_line (rules_fact c.args.rules.now)) c.loop-rest.lines.items _ before.0 c.loop-rest.rest.now c.kept-item.result _ c.in-len1-up.len_at_least c.kept-item.is before.2 again,
    )
