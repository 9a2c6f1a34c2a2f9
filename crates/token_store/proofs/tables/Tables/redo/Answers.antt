use Rattle.std.proofs.Common.{◌∙◌, refl, sym}
use Rattle.token_store.proofs.Again.{fits_dropped, refuses_again}
use Rattle.token_store.specs.Room.{held_of}
use Rattle.token_store.proofs.tables.Tables.redo.Goals as goal

pub returns-in-Some-clause-refused : goal.returns-in-Some-clause-refused
returns-in-Some-clause-refused c =
    let d = c.drop_expired.ensures in
    refuses_again (held_of c.args.self.now) c.args.moment c.args.change.now c.in-Some.fault (λ list fits.
    sym (c.standing_refusal.ensures list (fits_dropped c.args.self.now c.drop_expired.new.self list c.args.moment d.tied d.same d.last d.coming (d.stay refl) fits)) ∙ c.in-Some.is)

pub returns-clause-redone : goal.returns-clause-redone
returns-clause-redone c = λ list fits.
    let d = c.drop_expired.ensures in
    let left = fits_dropped c.args.self.now c.drop_expired.new.self list c.args.moment d.tied d.same d.last d.coming (d.stay refl) fits in
    c.in-Ok.ensures.redone list left (sym (c.standing_refusal.ensures list left) ∙ c.in_default.is)

pub returns-clause-stands : goal.returns-clause-stands
returns-clause-stands c = λ list fits.
    let d = c.drop_expired.ensures in
    let left = fits_dropped c.args.self.now c.drop_expired.new.self list c.args.moment d.tied d.same d.last d.coming (d.stay refl) fits in
    sym (c.standing_refusal.ensures list left) ∙ c.in_default.is
