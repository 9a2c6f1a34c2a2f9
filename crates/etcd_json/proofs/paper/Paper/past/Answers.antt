use Rattle.std.proofs.Common.{append_assoc}
use Rattle.etcd_json.proofs.paper.Paper.past.Goals as goal

pub returns : goal.returns
returns c = simp append_assoc at (rw (c.in_ok-range.ensures) at c.number.ensures)
