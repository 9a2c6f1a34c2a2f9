use Rattle.std.proofs.Common.{rules, codes, ◌∷◌, []}
use Rattle.answers.proofs.Names.{Texts, plain, Told}
use Rattle.answers.proofs.Listing.{names_small}
use Rattle.answers.proofs.Sizes.{if_short}
use Rattle.answers.proofs.writing.all_hooks.Goals as goal

pub returns-clause-short : goal.returns-clause-short
returns-clause-short g c =
    let names = g.H.HookHost.names c.args.host.now in
    if_short c.told.result (plain 200 (Told (Texts (codes "hooks") names ∷ []))) (names_small names c.in_ok-names.ensures.names) (search rules)
