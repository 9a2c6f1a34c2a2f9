use Rattle.std.proofs.Common.{List, ℕ, ◌-◌, ◌^◌, length}
use Rattle.batch_file.specs.Readers.{ahead, HasRead}
use Rattle.batch_file.specs.ReadersParts.{StaysThere, left}
use Rattle.batch_file.proofs.reader.FrameReader.fill_frame.Given as goal

abbrev pub invariant-loop-self : goal.invariant-loop-self
invariant-loop-self g l = record {
  read : (batches : List (List ℕ)) → HasRead g.S.ByteSource.told g.S.ByteSource.is_over batches l.fn.self → HasRead g.S.ByteSource.told g.S.ByteSource.is_over batches l.self;
  same : StaysThere l.fn.self l.self;
  whole : (all : List ℕ) → g.S.ByteSource.whole l.fn.self.source all → g.S.ByteSource.whole l.self.source all;
}

abbrev pub decreases-loop-self : goal.decreases-loop-self
decreases-loop-self g l = left l.self.over (2 ^ 33 - length (ahead l.self.walk))
