use Rattle.std.proofs.Common.{◌≡◌, ◌<◌, ◌≤◌, ◌+◌, ◌∙◌, length, take, ap, sym, arith}
use Rattle.std.specs.Prelude.{count_by, if◌then◌else◌}
use Rattle.shelf.specs.Shelved.{in_slot, lasts}
use Rattle.shelf.proofs.Slotting.{count_all_taken, count_on, count_taken}
use Rattle.shelf.proofs.shelf.Shelf.count_in.Goals as goal

pub more_if-count-requires : goal.more_if-count-requires
more_if-count-requires g c =
    let le = count_taken (in_slot (lasts g.R.Lasts.until c.args.moment)) c.loop-slot.slot c.args.self.now.slots.items in
    let is = c.loop-slot.invariant in
    omega (arith, le, is)

pub loop-slot-preserved : goal.loop-slot-preserved
loop-slot-preserved g c =
    c.more_if-count.ensures
    ∙ ap (λ n. n + (if c.is_lasting.result then 1 else 0)) c.loop-slot.invariant
    ∙ ap (λ b. count_by (in_slot (lasts g.R.Lasts.until c.args.moment)) (take c.loop-slot.slot c.args.self.now.slots.items) + (if b then 1 else 0)) c.is_lasting.ensures
    ∙ sym (count_on (in_slot (lasts g.R.Lasts.until c.args.moment)) c.loop-slot.slot c.args.self.now.slots.items (let len = c.len-slot-end.ensures in omega (arith, len)))

pub returns : goal.returns
returns g c = c.loop-slot.invariant ∙ count_all_taken (in_slot (lasts g.R.Lasts.until c.args.moment)) c.loop-slot.slot c.args.self.now.slots.items (let len = c.len-slot-end.ensures in omega (arith, len))
