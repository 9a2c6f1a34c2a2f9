use Rattle.std.proofs.Common.{rules, ◌≤◌, length, codes, arith}
use Rattle.answers.proofs.Names.{token_text, length-token_text, sent_back}
use Rattle.std.specs.Option.{option_copied}
use Rattle.answers.proofs.Sizes.{if_short, sent_small}
use Rattle.answers.proofs.writing.sent.Goals as goal

pub returns-clause-short : goal.returns-clause-short
returns-clause-short c = λ short.
    let few : length (token_text c.args.draw.now) ≤ 64 = rw (length-token_text c.args.draw.now (search rules)) (omega arith) in
    if_short c.redirect.result (sent_back c.args.uri.now (codes "code") (token_text c.args.draw.now) (option_copied c.args.state)) (sent_small _ _ _ few short) (search rules)
