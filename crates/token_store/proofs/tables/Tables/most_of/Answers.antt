use Rattle.std.proofs.Common.{◌≤◌, ◌∙◌, subst}
use Rattle.token_store.proofs.Names.{stand_entries}
use Rattle.token_store.proofs.Counting.{client_homed, client_seen}
use Rattle.token_store.proofs.tables.Tables.most_of.Goals as goal

pub most_of-requires : goal.most_of-requires
most_of-requires c = c.requires.standing

pub returns : goal.returns
returns c =
    let t = c.args.self.now in
    let es = stand_entries t.records in
    subst (λ n. n ≤ c.most_of.result) (client_homed t.families.entries es c.args.client c.args.moment c.requires.ties.once c.requires.ties.homed ∙ client_seen t.families.entries es c.args.client c.args.moment)
    (rw c.get.ensures.value at c.most_of.ensures)
