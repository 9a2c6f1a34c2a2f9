use Rattle.std.proofs.Common.{refl}
use Rattle.token_store.proofs.Again.{fits_dropped}
use Rattle.token_store.proofs.store.Store.drop_records.Goals as goal

pub returns : goal.returns
returns c = rw (← c.self.view_is) (λ list fits.
    let d = c.drop_expired.ensures in
    fits_dropped c.self.inside.tables c.drop_expired.new.self list c.args.moment d.tied d.same d.last d.coming (d.stay refl) fits)
