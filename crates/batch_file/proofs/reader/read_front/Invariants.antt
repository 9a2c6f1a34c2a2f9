use Rattle.std.proofs.Common.{◌≡◌, List, ℕ, ◌-◌, length}
use Rattle.batch_file.proofs.reader.read_front.Given as goal

abbrev pub invariant-loop-alloc : goal.invariant-loop-alloc
invariant-loop-alloc g l = record {
  read : l.bytes.items ≡ g.S.ByteSource.told l.source;
  whole : (all : List ℕ) → g.S.ByteSource.whole l.fn.source all → g.S.ByteSource.whole l.source all;
}

abbrev pub decreases-loop-alloc : goal.decreases-loop-alloc
decreases-loop-alloc g l = 16 - length l.bytes.items
