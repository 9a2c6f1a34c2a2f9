use Rattle.std.proofs.Common.{◌≡◌, ◌<◌, ◌-◌, ℕ, true, length}
use Rattle.std.specs.List.{filter}
use Rattle.shelf.specs.Racked.{IsRacked, is_staying, rack_entries, rack_room}
use Rattle.shelf.specs.Shelved.{slot_at}
use Rattle.shelf.proofs.rack.Rack.keep.Given as goal

abbrev pub invariant-loop-slot : goal.invariant-loop-slot
invariant-loop-slot g l = record {
  racked : IsRacked l.self;
  kept : filter (λ e. g.V.Stays.stays e.1) (rack_entries l.self) ≡ filter (λ e. g.V.Stays.stays e.1) (rack_entries l.fn.self);
  stay : (k : ℕ) → k < l.slot → is_staying g.V.Stays.stays (slot_at l.self.slots.items k) ≡ true;
  room : rack_room l.self ≡ rack_room l.fn.self;
}

abbrev pub decreases-loop-slot : goal.decreases-loop-slot
decreases-loop-slot g l = length l.self.slots.items - l.slot
