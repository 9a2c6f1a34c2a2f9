use Rattle.std.proofs.Common.{refl}
use Rattle.token_store.proofs.Names.{told, event_at, kept_of, stand_entries}
use Rattle.token_store.proofs.Families.{tied_lowered, view_lowered}
use Rattle.token_store.proofs.Following.{fits_consented}
use Rattle.token_store.proofs.Changing.{last_pushed_none}
use Rattle.token_store.proofs.tables.Tables.lower.Goals as goal

pub returns : goal.returns
returns c =
    let t = c.args.self.now in
    let slots = t.families.entries in
    let slots' = c.lower_all.new.families.entries in
    let es = stand_entries t.records in
    let owner = c.args.owner in
    let client = c.args.client in
    let mask = c.args.mask in
    let m = c.args.moment in
    let lowered = rw (c.get.ensures.value, c.get-2.ensures.value) at c.lower_all.ensures.lowered in
    let owned = c.lower_all.ensures.owned in
    let changed = view_lowered slots slots' es owner client mask lowered in
    record {
      tied = record { standing = c.requires.tied.standing; ties = tied_lowered slots slots' owner client mask es t.owners.keys c.lower_all.new.owners.keys t.last t.swept lowered owned c.requires.tied.ties };
      alters = λ history fits. record {
        kept = rw changed (fits_consented (kept_of t) history m owner client mask fits.kept);
        last = last_pushed_none t.last history (event_at m (told.Consented owner client mask)) fits.last refl;
      };
      families = lowered;
      coming = refl;
    }
