use Rattle.std.proofs.Common.{◌≡◌, List, ℕ, ◌-◌}
use Rattle.file_copy.specs.Copies.{HasSeen, KeepsAside}
use Rattle.file_copy.proofs.placing.read_on.Given as goal

abbrev pub invariant-pieces : goal.invariant-pieces
invariant-pieces g l = record {
  read : (batches : List (List ℕ)) → HasSeen g.D.Device (g.D.Device.seen l.fn.device) batches l.fn.walk l.fn.at l.end l.fn.device
      → HasSeen g.D.Device (g.D.Device.seen l.fn.device) batches l.walk l.at l.end l.device;
  end : l.walk.end ≡ l.fn.walk.end;
  last : l.walk.last ≡ l.fn.walk.last;
  seen : g.D.Device.seen l.device ≡ g.D.Device.seen l.fn.device;
  next : g.D.Device.next l.device ≡ g.D.Device.next l.fn.device;
  aside : KeepsAside g.D.Device l.fn.device l.device;
}

abbrev pub decreases-pieces : goal.decreases-pieces
decreases-pieces g l = l.end - l.at
