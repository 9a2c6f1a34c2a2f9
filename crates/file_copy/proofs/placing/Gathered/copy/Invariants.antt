use Rattle.std.proofs.Common.{◌≡◌, List, ℕ, ◌-◌, ◌^◌}
use Rattle.file_copy.specs.Copies.{AreGathered, HasSeen, KeepsAside}
use Rattle.file_copy.proofs.placing.Gathered.copy.Given as goal

abbrev pub invariant-frames : goal.invariant-frames
invariant-frames g l = record {
  read : (batches : List (List ℕ)) × HasSeen g.D.Device (g.D.Device.seen l.fn.device) batches l.walk l.at l.end l.device × AreGathered (g.D.Device.next l.device) batches l.self;
  last : l.self.next.last ≡ l.walk.last;
  seen : g.D.Device.seen l.device ≡ g.D.Device.seen l.fn.device;
  aside : KeepsAside g.D.Device l.fn.device l.device;
}

abbrev pub decreases-frames : goal.decreases-frames
decreases-frames g l = 2 ^ 60 - l.walk.end
