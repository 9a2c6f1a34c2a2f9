use Rattle.std.proofs.Common.{◌≤◌, ◌∙◌, subst, sym}
use Rattle.token_store.proofs.Names.{stand_entries}
use Rattle.token_store.proofs.Dropping.{count_seen}
use Rattle.token_store.proofs.tables.Tables.most_unexpired.Goals as goal

pub most-requires : goal.most-requires
most-requires c = c.requires.standing

pub returns : goal.returns
returns c = let t = c.args.self.now in subst (λ n. n ≤ c.most.result) (sym (count_seen t.families.entries (stand_entries t.records) c.args.moment)) c.most.ensures
