use Rattle.std.proofs.Common.{◌-◌, ◌^◌, ℕ, List}
use Rattle.batch_file.specs.Readers.{HasRead}
use Rattle.state_file.proofs.Names.{Outset}
use Rattle.state_file.specs.Going.{HasGone}
use Rattle.state_file.proofs.gone.Gone.go_on.Given as goal

abbrev pub invariant-loop-batch : goal.invariant-loop-batch
invariant-loop-batch g l = record {
  gone : (outset : Outset g.row.H.Denot) → HasGone g.H.HookHost outset l.fn.self → HasGone g.H.HookHost outset l.self;
  read : HasRead g.S.ByteSource.told g.S.ByteSource.is_over l.fn.self.front.batches l.fn.reader → HasRead g.S.ByteSource.told g.S.ByteSource.is_over l.self.front.batches l.reader;
  whole : (all : List ℕ) → g.S.ByteSource.whole l.fn.reader.source all → g.S.ByteSource.whole l.reader.source all;
}

abbrev pub decreases-loop-batch : goal.decreases-loop-batch
decreases-loop-batch g l = 2 ^ 60 - l.reader.walk.end
