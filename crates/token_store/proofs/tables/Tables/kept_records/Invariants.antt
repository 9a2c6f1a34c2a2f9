use Rattle.std.proofs.Common.{◌≡◌, ◌++◌, drop}
use Rattle.token_store.proofs.Names.{is_unexpired, kept_of, as_kept}
use Rattle.std.specs.Prelude.{filter}
use Rattle.shelf.specs.Standing.{stand_slots}
use Rattle.token_store.proofs.Unexpired.{unexpired_in}
use Rattle.token_store.proofs.tables.Tables.kept_records.Given as goal

abbrev pub invariant-loop-slot : goal.invariant-loop-slot
invariant-loop-slot l = as_kept l.kept.items ++ unexpired_in l.fn.self.families.entries l.fn.moment (drop l.slot (stand_slots l.fn.self.records)) ≡ filter (λ k. is_unexpired l.fn.moment k.grant) (kept_of l.fn.self)
