use Rattle.std.proofs.Common.{length}
use Rattle.token_store.proofs.tables.Tables.+is_taken.Given as goal

abbrev pub decreases-is_taken : goal.decreases-is_taken
decreases-is_taken l = length l.digests.now
