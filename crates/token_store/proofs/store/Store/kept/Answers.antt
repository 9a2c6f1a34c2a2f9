use Rattle.std.proofs.Common.{◌∙◌, sym}
use Rattle.token_store.proofs.Names.{kept_in, length-map, stand_entries}
use Rattle.token_store.proofs.store.Store.kept.Goals as goal

pub returns : goal.returns
returns c = let t = c.self.inside.tables in rw (← c.self.view_is) (c.len.ensures.value ∙ sym (length-map (stand_entries t.records) (kept_in t.families.entries)))
