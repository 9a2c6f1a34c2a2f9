use Rattle.std.proofs.Common.{◌≡◌, ◌∙◌, length, sym, arith}
use Rattle.shelf.proofs.Racking.{all_stay, cleared_length, cleared_same, cleared_stay}
use Rattle.shelf.proofs.rack.Rack.keep.Goals as goal

pub loop-slot-preserved : goal.loop-slot-preserved
loop-slot-preserved g c =
    let was = c.loop-slot.invariant in
    let e = c.keep_at.ensures in
    let old = c.loop-slot.self.slots.items in
    let new = c.keep_at.new.self.slots.items in
    record {
      racked = e.racked;
      kept = cleared_same g.V.Stays.stays old new c.loop-slot.slot e.cleared ∙ was.kept;
      stay = cleared_stay g.V.Stays.stays old new c.loop-slot.slot e.cleared was.stay;
      room = e.room ∙ was.room;
    }

pub loop-slot-smaller : goal.loop-slot-smaller
loop-slot-smaller g c =
    let long = cleared_length g.V.Stays.stays c.loop-slot.self.slots.items c.keep_at.new.self.slots.items c.loop-slot.slot c.keep_at.ensures.cleared in
    let len = c.len.ensures in
    let test = c.loop-slot-test.true in
    omega (arith, long, len, test)

pub returns-clause-kept : goal.returns-clause-kept
returns-clause-kept g c =
    let len = c.len.ensures in
    let test = c.loop-slot-test.false in
    sym (all_stay g.V.Stays.stays c.loop-slot.self.slots.items (λ k inside. c.loop-slot.invariant.stay k (omega (arith, len, test, inside)))) ∙ c.loop-slot.invariant.kept
