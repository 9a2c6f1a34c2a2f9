use Rattle.std.proofs.Common.{arith}
use Rattle.token_store.proofs.Names.{stand_entries}
use Rattle.token_store.proofs.Closing.{seen_peopled, tied_peopled}
use Rattle.token_store.proofs.tables.Tables.settle.Goals as goal

pub returns-clause-same : goal.returns-clause-same
returns-clause-same c =
    let t = c.args.self.now in
    seen_peopled t.families.entries c.keep_peopled.new.self.entries (stand_entries t.records) (λ k. (let same = c.requires.ties.counted k in omega (arith, same))) c.keep_peopled.ensures

pub returns-clause-tied : goal.returns-clause-tied
returns-clause-tied c = record {
  standing = c.requires.standing;
  ties = tied_peopled _ c.keep_peopled.new.self.entries _ _ c.keep_known.new.owners.keys _ _ c.keep_peopled.ensures c.keep_known.ensures c.requires.ties;
}
