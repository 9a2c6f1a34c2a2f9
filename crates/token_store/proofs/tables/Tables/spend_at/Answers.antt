use Rattle.std.proofs.Common.{arith, refl, ◌≡◌, ◌∙◌, ap, true, None}
use Rattle.token_store.proofs.Names.{is_some, event_at, told, kept_at, kept_of, all_kept, stand_entries}
use Rattle.token_store.proofs.Spending.{tied_spent, view_spent, unspent_same}
use Rattle.token_store.proofs.Following.{fits_spent}
use Rattle.token_store.proofs.Changing.{last_pushed_none}
use Rattle.token_store.proofs.tables.Tables.spend_at.Goals as goal

pub returns-then-is_some : goal.returns-then-is_some
returns-then-is_some c =
    let t = c.args.self.now in
    let es = stand_entries t.records in
    let d = c.args.digest.now in
    let m = c.args.moment in
    let at = c.record_at.ensures in
    let test = c.is_some.ensures in
    let yes = c.if-is_some.true in
    let there : is_some (kept_at (kept_of t) d m) ≡ true = grind (arith, at, test, yes) in
    let spent = c.spend.ensures.spent in
    let changed = ap (all_kept t.families.entries) spent ∙ view_spent t.families.entries es d m c.requires.tied.ties.once there in
    record {
      tied = record { standing = c.spend.ensures.standing; ties = rw spent (tied_spent t.families.entries es t.owners.keys t.last t.swept d c.requires.tied.ties) };
      alters = λ history fits. record { kept = rw changed (fits_spent (kept_of t) history m d fits.kept); last = last_pushed_none t.last history (event_at m (told.Spent d)) fits.last refl };
      families = refl;
      coming = refl;
    }

pub returns-else-is_some-clause-alters : goal.returns-else-is_some-clause-alters
returns-else-is_some-clause-alters c = λ history fits.
    let t = c.args.self.now in
    let d = c.args.digest.now in
    let m = c.args.moment in
    let at = c.record_at.ensures in
    let test = c.is_some.ensures in
    let no = c.if-is_some.false in
    let none : kept_at (kept_of t) d m ≡ None = grind (arith, at, test, no) in
    record { kept = rw (← unspent_same (kept_of t) d m none) (fits_spent (kept_of t) history m d fits.kept); last = last_pushed_none t.last history (event_at m (told.Spent d)) fits.last refl }
