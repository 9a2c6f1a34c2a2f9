use Rattle.std.proofs.Common.{◌∙◌, sym, subst}
use Rattle.state_file.proofs.Names.{RulesFact, rules_fact, AreAsWide}
use Rattle.state_file.proofs.Tells.{told_spelled}
use Rattle.state_file.proofs.rules_told.tells_as.Goals as goal

pub returns-clause-wide : goal.returns-clause-wide
returns-clause-wide c = λ others tells.
    subst (λ (r : RulesFact). AreAsWide r (rules_fact c.args.now.now)) (sym (c.in_ok-told.ensures.one others tells)) c.in_ok-compare.ensures.wide

pub returns-clause-told : goal.returns-clause-told
returns-clause-told c =
    let told = rules_fact c.in_ok-told.told in
    let now = rules_fact c.args.now.now in
    let either = told_spelled c.args.batch.now told now c.in_ok-told.ensures.told c.in_ok-told.ensures.fit c.requires.fit c.in_ok-told.ensures.one in
    let same = c.in_ok-same.ensures.same in
    (λ yes. either.0 (same.0 yes ∙ c.requires.spelled), λ tells. same.1 (either.1 tells ∙ sym c.requires.spelled))
