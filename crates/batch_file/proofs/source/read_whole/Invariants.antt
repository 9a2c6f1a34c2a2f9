use Rattle.std.proofs.Common.{◌≡◌, List, ℕ, ◌-◌, ◌^◌, ◌++◌, length}
use Rattle.batch_file.proofs.source.read_whole.Given as goal

abbrev pub invariant-loop-bytes : goal.invariant-loop-bytes
invariant-loop-bytes g l = record {
  read : g.S.ByteSource.told l.source ≡ g.S.ByteSource.told l.fn.source ++ l.bytes.items;
  whole : (all : List ℕ) → g.S.ByteSource.whole l.fn.source all → g.S.ByteSource.whole l.source all;
}

abbrev pub decreases-loop-bytes : goal.decreases-loop-bytes
decreases-loop-bytes g l = 2 ^ 63 - length l.bytes.items
