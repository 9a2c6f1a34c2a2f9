use Rattle.std.proofs.Common.{◌≡◌, length}
use Rattle.change_codec.specs.Spelling.{dated_facts}
use Rattle.narrowing.specs.Codes.{beyond_by}
use Rattle.narrowing.specs.LeftLaws.{left_events}
use Rattle.narrowing.proofs.Changing.{with_rest}
use Rattle.narrowing.proofs.changes.changes_left.Given as goal

abbrev pub invariant-loop-place : goal.invariant-loop-place
invariant-loop-place l = record {
  left : with_rest (record { rules = l.fn.rules; owners = l.fn.owners }) (beyond_by l.codes.entries) l.left.items l.place ≡ left_events (record { rules = l.fn.rules; owners = l.fn.owners }) (beyond_by l.codes.entries) (dated_facts l.fn.changes.items);
  length : length l.left.items ≡ l.place-end;
}
