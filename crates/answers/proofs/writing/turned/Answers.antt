use Rattle.std.proofs.Common.{rules, codes}
use Rattle.answers.proofs.Names.{sent_back, error_text}
use Rattle.std.specs.Option.{option_copied}
use Rattle.answers.proofs.Sizes.{if_short, turned_small}
use Rattle.answers.proofs.writing.turned.Goals as goal

pub returns-clause-short : goal.returns-clause-short
returns-clause-short c = λ short.
    if_short c.redirect.result (sent_back c.args.uri.now (codes "error") (error_text c.args.error) (option_copied c.args.state)) (turned_small _ _ _ short) (search rules)
