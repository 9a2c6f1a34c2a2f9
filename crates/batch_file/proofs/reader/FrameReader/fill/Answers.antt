use Rattle.std.proofs.Common.{◌∙◌}
use Rattle.batch_file.proofs.reader.FrameReader.fill.Goals as goal

pub loop-self-preserved : goal.loop-self-preserved
loop-self-preserved g c =
    let was = c.loop-self.invariant in
    let now = c.in_ok-read_piece.ensures in
    record {
      read = λ batches h. now.read batches (was.read batches h);
      same = record { last = now.same.last ∙ was.same.last; end = now.same.end ∙ was.same.end; spent = now.same.spent ∙ was.same.spent };
      whole = λ all h. now.whole all (was.whole all h);
    }
