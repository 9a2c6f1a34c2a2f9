use Rattle.std.proofs.Common.{◌≡◌, drop}
use Rattle.token_store.proofs.Names.{is_member_at, list_any}
use Rattle.shelf.specs.Shelved.{in_slot}
use Rattle.shelf.specs.Standing.{stand_slots}
use Rattle.token_store.proofs.tables.Tables.has_live.Given as goal

abbrev pub invariant-loop-slot : goal.invariant-loop-slot
invariant-loop-slot l =
    list_any (in_slot (is_member_at l.fn.number l.fn.moment)) (stand_slots l.fn.self.records) ≡ list_any (in_slot (is_member_at l.fn.number l.fn.moment)) (drop l.slot (stand_slots l.fn.self.records))
