use Rattle.std.proofs.Common.{◌≡◌, arith}
use Rattle.token_store.proofs.Names.{shared_at, stand_entries, nat_tests}
use Rattle.token_store.proofs.Families.{tied_closed, unseen_empty}
use Rattle.token_store.proofs.tables.Tables.forget_coming.Goals as goal

pub returns-then-not-is_peopled-clause-tied : goal.returns-then-not-is_peopled-clause-tied
returns-then-not-is_peopled-clause-tied c =
    let t = c.args.self.now in
    let n = c.in-Some.coming.number in
    let empty : (shared_at t.families.entries n).count ≡ 0 = (let is = c.is_peopled.ensures in let no = c.if-not-is_peopled.true in grind (arith, nat_tests, is, no)) in
    record {
      standing = c.requires.tied.standing;
      ties = tied_closed t.families.entries c.close.new.families.entries n (stand_entries t.records) t.owners.keys c.close.new.owners.keys t.last t.swept empty c.close.ensures.closed c.close.ensures.owned c.requires.tied.ties;
    }

pub returns-then-not-is_peopled-clause-same : goal.returns-then-not-is_peopled-clause-same
returns-then-not-is_peopled-clause-same c =
    let t = c.args.self.now in
    let n = c.in-Some.coming.number in
    let empty : (shared_at t.families.entries n).count ≡ 0 = (let is = c.is_peopled.ensures in let no = c.if-not-is_peopled.true in grind (arith, nat_tests, is, no)) in
    unseen_empty t c.close.new.families.entries n c.requires.tied empty c.close.ensures.closed.others
