use Rattle.std.proofs.Common.{◌≡◌, List, ℕ, ◌+◌, ◌-◌, ◌^◌, ◌++◌, length}
use Rattle.batch_file.proofs.reader.skip.Given as goal

abbrev pub invariant-loop-size : goal.invariant-loop-size
invariant-loop-size g l = record {
  read : (rest : List ℕ) × (g.S.ByteSource.told l.source ≡ g.S.ByteSource.told l.fn.source ++ rest) × (l.size ≡ l.fn.before + length rest);
  whole : (all : List ℕ) → g.S.ByteSource.whole l.fn.source all → g.S.ByteSource.whole l.source all;
}

abbrev pub decreases-loop-size : goal.decreases-loop-size
decreases-loop-size g l = 2 ^ 60 - l.size
