use Rattle.std.proofs.Common.{◌∙◌}
use Rattle.token_store.proofs.Names.{stand_entries}
use Rattle.token_store.proofs.Counting.{client_homed, client_seen}
use Rattle.token_store.proofs.tables.Tables.count_of.Goals as goal

pub count_of-requires : goal.count_of-requires
count_of-requires c = c.requires.standing

pub returns : goal.returns
returns c =
    let t = c.args.self.now in
    let es = stand_entries t.records in
    rw c.get.ensures.value at c.count_of.ensures ∙ client_homed t.families.entries es c.args.client c.args.moment c.requires.ties.once c.requires.ties.homed ∙ client_seen t.families.entries es c.args.client c.args.moment
