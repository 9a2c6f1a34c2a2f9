use Rattle.std.proofs.Common.{◌≤◌, ◌∙◌, sym, arith}
use Rattle.token_store.proofs.Names.{stand_entries}
use Rattle.token_store.proofs.Telling.{lives_seen}
use Rattle.token_store.proofs.tables.Tables.lives.Goals as goal

pub returns-then-get-self : goal.returns-then-get-self
returns-then-get-self c = let t = c.args.self.now in c.has_live.ensures ∙ lives_seen t.families.entries (stand_entries t.records) c.args.moment c.args.number

pub returns : goal.returns
returns c =
    let t = c.args.self.now in
    let m = c.args.moment in
    let n = c.args.number in
    let le : t.swept ≤ m = (let test = c.if-get-self.false in let got = c.get.ensures.value in omega (arith, test, got)) in
    c.lasts.ensures ∙ sym (c.requires.ties.lasting n m le) ∙ lives_seen t.families.entries (stand_entries t.records) m n
