use Rattle.std.proofs.Common.{◌≡◌, ◌≤◌, ◌-◌, List, length, drop}
use Rattle.heads.specs.Message.{Message, ReadsMessages}
use Rattle.heads.proofs.scan.scan_behind.Given as goal

abbrev pub invariant-requests : goal.invariant-requests
invariant-requests l = record {
  messages : List Message;
  count : length messages ≡ l.count;
  few : l.count ≤ l.end;
  end : l.end ≤ length l.bytes;
  front : l.count ≡ 0 → l.end ≡ 0;
  reads : ReadsMessages l.bytes messages (drop l.end l.bytes);
}

abbrev pub decreases-requests : goal.decreases-requests
decreases-requests l = length l.bytes - l.end
