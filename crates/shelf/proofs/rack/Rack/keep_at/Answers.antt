use Rattle.std.proofs.Common.{◌≡◌, ◌∙◌, true, false, Some, None, refl, ap, sym, arith}
use Rattle.std.specs.Prelude.{nat_eq}
use Rattle.shelf.specs.Shelved.{is_keyed, slot_at}
use Rattle.shelf.proofs.Racking.{left_out, stays_there}
use Rattle.shelf.proofs.rack.Rack.keep_at.Goals as goal

pub evict-requires-clause-numbered : goal.evict-requires-clause-numbered
evict-requires-clause-numbered g c = (left_out g.V.Stays.stays (slot_at c.args.self.now.slots.items c.args.slot) c.in-Some.number (sym c.leaving.ensures ∙ c.in-Some.is)).0

pub returns-clause-cleared : goal.returns-clause-cleared
returns-clause-cleared g c =
    let out = (left_out g.V.Stays.stays (slot_at c.args.self.now.slots.items c.args.slot) c.in-Some.number (sym c.leaving.ensures ∙ c.in-Some.is)).1 in
    rw out c.evict.ensures.slots

pub returns-in_default-clause-cleared : goal.returns-in_default-clause-cleared
returns-in_default-clause-cleared g c =
    let stays = stays_there g.V.Stays.stays (slot_at c.args.self.now.slots.items c.args.slot) (sym c.leaving.ensures ∙ c.in_default.is) in
    rw stays refl
