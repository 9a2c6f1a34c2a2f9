use Rattle.std.proofs.Common.{◌≡◌, ◌≤◌, take}
use Rattle.std.specs.Prelude.{count_by}
use Rattle.narrowing.specs.EndedParts.{ends_kept}
use Rattle.token_store.specs.Image.{as_kept}
use Rattle.narrowing.proofs.records.ended_count.Given as goal

abbrev pub invariant-loop-of : goal.invariant-loop-of
invariant-loop-of l = (l.count ≡ count_by (ends_kept (record { rules = l.fn.rules; owners = l.fn.owners }) l.fn.moment) (as_kept (take l.of-index l.records))) × (l.count ≤ l.of-index)
