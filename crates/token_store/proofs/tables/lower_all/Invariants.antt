use Rattle.std.proofs.Common.{ℕ, ◌-◌, Option, Some, None}
use Rattle.token_store.proofs.Families.{LowersOn}
use Rattle.token_store.proofs.tables.lower_all.Given as goal

abbrev pub invariant-loop-place : goal.invariant-loop-place
invariant-loop-place l = LowersOn l.fn.families.entries l.families.entries l.owners.keys l.parties l.mask l.after

abbrev to_go : Option ℕ → ℕ
to_go None = 18446744073709551616
to_go (Some n) = 18446744073709551615 - n

abbrev pub decreases-loop-place : goal.decreases-loop-place
decreases-loop-place l = to_go l.after
