use Rattle.std.proofs.Common.{rules, ◌≤◌, length, refl, sym, ap, subst, arith}
use Rattle.std.specs.Prelude.{List, ℕ, option_copied}
use Rattle.clients.specs.Limits.{identifier_limit}
use Rattle.answers.specs.Replies.{id_of}
use Rattle.answers.specs.ToldParts.{live_body_of}
use Rattle.answers.proofs.Names.{plain, scope_text, scope_text_limit}
use Rattle.answers.proofs.Sizes.{if_short}
use Rattle.answers.proofs.writing.live.Goals as goal

pub returns-clause-short : goal.returns-clause-short
returns-clause-short c = λ short.
    let client : length (id_of c.args.rules.now c.args.token.client) ≤ identifier_limit =
    subst (λ (text : List ℕ). length text ≤ identifier_limit) c.id_of.ensures.value c.id_of.ensures.short in
    let scope : length (scope_text c.args.rules.now.scopes c.args.token.scope) ≤ scope_text_limit = rw (c.in_ok-scope.ensures.text, c.catalogue.ensures.value) at c.in_ok-scope.ensures.short in
    if_short c.active.result (plain 200 (live_body_of c.args.rules.now c.args.token (option_copied c.args.sub)))
    (record { status = refl; short = (client, search rules, search rules, omega (arith, scope), short) }) (search rules)
