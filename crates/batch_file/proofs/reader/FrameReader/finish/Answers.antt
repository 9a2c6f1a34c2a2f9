use Rattle.std.proofs.Common.{◌++◌, ◌∙◌, ap, sym}
use Rattle.batch_file.specs.Frames.{header, last_of}
use Rattle.batch_file.specs.FramesLaws.{last_is}
use Rattle.batch_file.proofs.reader.FrameReader.finish.Goals as goal

pub returns-in-Ok-clause-batches : goal.returns-in-Ok-clause-batches
returns-in-Ok-clause-batches g c = λ batches h.
    let all = c.in-Ok.ensures.read batches h in
    (all.0, all.3.are, all.1)

pub returns-in-Ok-clause-readable : goal.returns-in-Ok-clause-readable
returns-in-Ok-clause-readable g c = λ batches h.
    let all = c.in-Ok.ensures.read batches h in
    all.3.readable

pub returns-in-Ok-clause-torn : goal.returns-in-Ok-clause-torn
returns-in-Ok-clause-torn g c = λ batches h.
    let all = c.in-Ok.ensures.read batches h in
    all.3.torn_is

pub returns-in-Ok-clause-end : goal.returns-in-Ok-clause-end
returns-in-Ok-clause-end g c = λ batches h.
    let all = c.in-Ok.ensures.read batches h in
    all.3.end_is

pub returns-in-Ok-clause-last : goal.returns-in-Ok-clause-last
returns-in-Ok-clause-last g c = λ batches h.
    let all = c.in-Ok.ensures.read batches h in
    last_is header (batches ++ all.0) _ _ all.2.walked.are ∙ ap (last_of header) (sym all.3.are)
