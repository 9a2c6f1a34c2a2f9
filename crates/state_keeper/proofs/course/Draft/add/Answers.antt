use Rattle.std.proofs.Common.{◌≡◌, ◌++◌, ◌∷◌, [], arith}
use Rattle.state_keeper.proofs.Names.{frames_size}
use Rattle.state_keeper.proofs.Walked.{size_more}
use Rattle.state_keeper.proofs.course.Draft.add.Goals as goal

pub returns-clause-added : goal.returns-clause-added
returns-clause-added g c = λ batches was.
    let batch = c.args.batch.now in
    let next = c.in-Ok.ensures.added batches was.next in
    let ends = next.end in
    let sub = c.saturating_sub-size.ensures in
    let size : c.saturating_sub-size.result ≡ frames_size (batches ++ batch ∷ []) = omega (arith, ends, sub) in
    record {
      next = next;
      size = size_more batches batch c.saturating_sub-size.result c.args.self.now.shortened c.size_behind-self.result size was.size c.size_behind-self.ensures;
    }
