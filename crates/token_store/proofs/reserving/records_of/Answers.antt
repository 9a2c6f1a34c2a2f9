use Rattle.std.specs.List.{range_with_len}
use Rattle.token_store.proofs.Leaving.{none_by}
use Rattle.token_store.proofs.reserving.records_of.Goals as goal

pub returns-in-Left : goal.returns-in-Left
returns-in-Left c = rw c.in-Left.is (none_by c.in-Left.owner (range_with_len 1 c.in-Left.clients))
