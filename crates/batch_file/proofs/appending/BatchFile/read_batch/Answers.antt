use Rattle.std.proofs.Common.{List, ℕ, ◌+◌, ◌∙◌, ap, take, drop}
use Rattle.batch_file.specs.Frames.{size_at}
use Rattle.batch_file.proofs.Picking.{batch_there}
use Rattle.batch_file.proofs.appending.BatchFile.read_batch.Goals as goal

pub returns-clause-read : goal.returns-clause-read
returns-clause-read g c = λ told before after batch is at_is.
    let D = g.D.Device in
    let old = c.args.self.now in
    let at = c.args.at in
    let size = c.size_told-size.result in
    let size_is = c.size_told-size.ensures ∙ ap (λ (l : List ℕ). size_at (drop 1 l)) c.deref.ensures.value in
    let first = c.in_ok-head.ensures in
    let second = c.in_ok-bytes.ensures in
    let head_is = first.read (second.truth told) ∙ ap (λ (l : List ℕ). take 21 (drop at l)) first.beside.bytes in
    let bytes_is = second.read told ∙ ap (λ (l : List ℕ). take size (drop (at + 21) l)) (second.beside.bytes ∙ first.beside.bytes) in
    batch_there old.end old.room at size old.last (D.seen old.device) c.in_ok-head.head.items c.in_ok-bytes.bytes.items c.requires.at_rest head_is size_is bytes_is before after batch is at_is
