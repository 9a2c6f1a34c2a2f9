use Rattle.etcd_client.specs.Past.{OnlyReads}
use Rattle.standby.proofs.reading.pieces_again.Given as goal

abbrev pub invariant-tries : goal.invariant-tries
invariant-tries g l = OnlyReads (g.M.Members.exchanges l.fn.members) (g.M.Members.exchanges l.members)
