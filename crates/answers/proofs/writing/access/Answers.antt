use Rattle.std.proofs.Common.{rules, ◌<◌, ◌≤◌, ◌^◌, length, refl, arith}
use Rattle.answers.proofs.Names.{scope_text_limit, scope_text, token_text, length-token_text, access_reply}
use Rattle.answers.proofs.Sizes.{if_short}
use Rattle.answers.proofs.writing.access.Goals as goal

pub returns-clause-short : goal.returns-clause-short
returns-clause-short c =
    let access : length (token_text c.args.draw.now) ≤ 64 = rw (length-token_text c.args.draw.now (search rules)) (omega arith) in
    let scope : length (scope_text c.args.rules.now.scopes c.args.scope) ≤ scope_text_limit = rw (c.in_ok-scope.ensures.text, c.catalogue.ensures.value) at c.in_ok-scope.ensures.short in
    let few : c.args.life < 2 ^ 64 = omega (arith, c.ranges.life.fits) in
    if_short c.tokens.result (access_reply c.args.rules.now c.args.draw.now c.args.scope c.args.life) (record { status = refl; short = (access, few, omega arith, scope) }) (search rules)
