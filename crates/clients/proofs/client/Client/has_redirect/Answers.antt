use Rattle.std.proofs.Common.{◌≡◌, ◌∙◌, rules, true, map, string_bytes}
use Rattle.clients.proofs.Names.{list_any, bytes_eq, redirect-among}
use Rattle.clients.proofs.Listed.{any_text}
use Rattle.clients.proofs.client.Client.has_redirect.Goals as goal

pub returns-clause-short : goal.returns-clause-short
returns-clause-short c = λ yes.
    let items = c.self.inside.redirects.items in
    let stands : list_any (λ s. bytes_eq c.args.uri.now (string_bytes s)) items ≡ true = search rules in
    redirect-among c.args.uri.now (map string_bytes items) c.self.invariant.redirects (any_text c.args.uri.now items ∙ stands)
