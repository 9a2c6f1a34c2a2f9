use Rattle.std.proofs.Common.{◌≡◌, ◌≤◌, take}
use Rattle.event_loop.specs.Places.{open_count}
use Rattle.event_loop.proofs.service.Service.open_count.Given as goal

abbrev pub invariant-loop-k : goal.invariant-loop-k
invariant-loop-k l = record {
  counted : l.count ≡ open_count (take l.k l.self.places);
  small : l.count ≤ l.k;
}
