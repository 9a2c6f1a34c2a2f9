use Rattle.std.proofs.Common.{◌≡◌, ◌∙◌, ap, refl}
use Rattle.shelf.specs.Shelved.{entries_in, entries_of}
use Rattle.shelf.proofs.shelf.Shelf.take_expired.Goals as goal

pub evict-requires : goal.evict-requires
evict-requires g c = (let there = c.in_ok-slot.ensures.some in record { counted = c.in_ok-slot.ensures.counted; held = record { slot = there.slot; at = there.at } })

pub returns-clause-some : goal.returns-clause-some
returns-clause-some g c =
    let there = c.in_ok-slot.ensures.some in
    let gone = c.evict.ensures.gone there.slot there.at in
    rw gone.0 (record { digest = there.slot.key; taken = rw (ap (λ s. entries_in s.items) c.next_expired.ensures.slots) at gone.1; expired = there.expired })

pub returns-clause-none : goal.returns-clause-none
returns-clause-none g c =
    let there = c.in_ok-slot.ensures.some in
    rw (c.evict.ensures.gone there.slot there.at).0 tt
