use Rattle.std.proofs.Common.{◌∙◌, sym}
use Rattle.token_store.proofs.Names.{stand_entries}
use Rattle.token_store.proofs.Dropping.{count_seen}
use Rattle.token_store.proofs.tables.Tables.count_unexpired.Goals as goal

pub count-requires : goal.count-requires
count-requires c = c.requires.standing

pub returns : goal.returns
returns c = let t = c.args.self.now in c.count.ensures ∙ sym (count_seen t.families.entries (stand_entries t.records) c.args.moment)
