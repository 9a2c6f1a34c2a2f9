use Rattle.std.proofs.Common.{rules, ◌≤◌, length, refl, arith}
use Rattle.answers.proofs.Names.{scope_text_limit, scope_text, consent_body, plain}
use Rattle.answers.proofs.Sizes.{if_short}
use Rattle.answers.proofs.writing.consented.Goals as goal

pub returns-clause-short : goal.returns-clause-short
returns-clause-short c =
    let scope : length (scope_text c.args.rules.now.scopes c.args.mask) ≤ scope_text_limit = rw (c.in_ok-scope.ensures.text, c.catalogue.ensures.value) at c.in_ok-scope.ensures.short in
    if_short c.told.result (plain 200 (consent_body (scope_text c.args.rules.now.scopes c.args.mask))) (record { status = refl; short = omega (arith, scope) }) (search rules)
