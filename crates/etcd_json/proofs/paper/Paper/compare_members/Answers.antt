use Rattle.std.proofs.Common.{append_assoc}
use Rattle.etcd_json.proofs.paper.Paper.compare_members.Goals as goal

pub returns : goal.returns
returns c = simp append_assoc at (rw (c.in_ok-text-2.ensures, c.in_ok-text.ensures, c.in_ok-bytes.ensures, c.target_name.ensures, c.revision_name.ensures) at c.number.ensures)
