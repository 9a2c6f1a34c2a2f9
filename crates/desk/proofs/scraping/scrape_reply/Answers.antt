use Rattle.std.proofs.Common.{◌≡◌, true, false, None, refl, rules}
use Rattle.desk.proofs.scraping.scrape_reply.Goals as goal

pub returns-then-not-with_key : goal.returns-then-not-with_key
returns-then-not-with_key c = (let is : c.args.with_key ≡ false = search rules in rw is refl)

pub returns-in-None : goal.returns-in-None
returns-in-None c =
    let is : c.args.with_key ≡ true = search rules in
    let none : c.args.page.now ≡ None = search rules in
    rw (is, none) refl
