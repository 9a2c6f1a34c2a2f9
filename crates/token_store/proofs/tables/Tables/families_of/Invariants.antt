use Rattle.std.proofs.Common.{◌≡◌, ◌+◌, drop}
use Rattle.std.specs.Prelude.{count_by}
use Rattle.token_store.specs.RecordsParts.{open_in}
use Rattle.token_store.proofs.Names.{kept_lives, kept_of}
use Rattle.token_store.proofs.tables.Tables.families_of.Given as goal

abbrev pub invariant-loop-slot : goal.invariant-loop-slot
invariant-loop-slot l =
    count_by (open_in l.fn.owner (kept_lives (kept_of l.fn.self) l.fn.moment)) l.slots.items
    ≡ l.count + count_by (open_in l.fn.owner (kept_lives (kept_of l.fn.self) l.fn.moment)) (drop l.slot l.slots.items)
