use Rattle.std.proofs.Common.{◌≤◌, ◌-◌, length}
use Rattle.etcd_client.specs.Past.{AreFirst, OnlyReads}
use Rattle.standby.proofs.reading.pieced.Given as goal

abbrev pub invariant-pieces : goal.invariant-pieces
invariant-pieces g l = record {
  reads : OnlyReads (g.M.Members.exchanges l.fn.members) (g.M.Members.exchanges l.members);
  first : AreFirst l.names.prefix.items l.cluster l.standing (g.M.Members.exchanges l.members) l.bytes.items;
  within : length l.bytes.items ≤ l.standing.head.end;
}

abbrev pub decreases-pieces : goal.decreases-pieces
decreases-pieces g l = l.standing.head.end - length l.bytes.items
