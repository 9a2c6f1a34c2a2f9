use Rattle.std.proofs.Common.{List, ℕ, ◌-◌, ◌^◌, ◌++◌}
use Rattle.batch_file.specs.Readers.{HasRead}
use Rattle.batch_file.proofs.reader.FrameReader.go_over.Given as goal

abbrev pub invariant-frames : goal.invariant-frames
invariant-frames g l = record {
  read : (batches : List (List ℕ)) → HasRead g.S.ByteSource.told g.S.ByteSource.is_over batches l.fn.self
      → (later : List (List ℕ)) × HasRead g.S.ByteSource.told g.S.ByteSource.is_over (batches ++ later) l.self;
  whole : (all : List ℕ) → g.S.ByteSource.whole l.fn.self.source all → g.S.ByteSource.whole l.self.source all;
}

abbrev pub decreases-frames : goal.decreases-frames
decreases-frames g l = 2 ^ 60 - l.self.walk.end
