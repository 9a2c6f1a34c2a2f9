use Rattle.std.proofs.Common.{ap, arith}
use Rattle.token_store.proofs.Names.{all_kept, event_at, told, stand_entries}
use Rattle.token_store.proofs.Families.{tied_ended, view_ended}
use Rattle.token_store.proofs.Following.{fits_ended}
use Rattle.token_store.proofs.Changing.{last_pushed}
use Rattle.token_store.proofs.tables.Tables.end.Goals as goal

pub returns : goal.returns
returns c =
    let t = c.args.self.now in
    let t' = c.pass.new.self in
    let slots' = c.end_one.new.families.entries in
    let es = stand_entries t.records in
    let n = c.args.family in
    let m = c.args.moment in
    let ended = rw c.pass.ensures.same at c.end_one.ensures.ended in
    let owned = rw c.pass.ensures.same at c.end_one.ensures.owned c.requires.tied.ties.owned in
    let changed = view_ended t.families.entries slots' n es ended (λ k. (let same = c.requires.tied.ties.counted k in omega (arith, same))) in
    record {
      tied = rw c.pass.ensures.same (record { standing = c.requires.tied.standing; ties = tied_ended t.families.entries slots' n es t.owners.keys c.end_one.new.owners.keys _ t.swept ended owned (rw c.pass.ensures.same at c.pass.ensures.tied.ties) });
      alters = λ history fits. rw c.pass.ensures.same (record {
        kept = rw changed (fits_ended (all_kept t.families.entries es) history m n fits.kept);
        last = last_pushed t.last history (event_at m (told.FamilyEnded n)) fits.last;
      });
      families = ended;
      coming = ap (λ x. x.coming) c.pass.ensures.same;
    }
