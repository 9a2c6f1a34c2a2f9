use Rattle.std.proofs.Common.{◌++◌, ◌∙◌, List, ℕ, inr, subst, rules}
use Rattle.std.specs.Prelude.{IsTrue}
use Rattle.batch_file.specs.Frames.{IsNoFrame}
use Rattle.batch_file.proofs.reader.FrameReader.fill_frame.Goals as goal

pub loop-self-preserved : goal.loop-self-preserved
loop-self-preserved g c =
    let was = c.loop-self.invariant in
    let now = c.in_ok-read_piece.ensures in
    record {
      read = λ batches h. now.read batches (was.read batches h);
      same = record { last = now.same.last ∙ was.same.last; end = now.same.end ∙ was.same.end; spent = now.same.spent ∙ was.same.spent };
      whole = λ all h. now.whole all (was.whole all h);
    }

pub returns-else-not-is_decided-clause-decided : goal.returns-else-not-is_decided-clause-decided
returns-else-not-is_decided-clause-decided g c =
    let yes : IsTrue c.is_decided.result = search rules in
    inr (λ last more. subst (λ (l : List ℕ). IsNoFrame last l → IsNoFrame last (l ++ more)) c.ahead.ensures (c.is_decided.ensures.yes yes last more))
