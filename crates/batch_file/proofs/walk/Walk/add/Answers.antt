use Rattle.std.proofs.Common.{◌≡◌, ◌++◌, ◌∙◌, List, ℕ, ap, drop}
use Rattle.batch_file.specs.Readers.{ahead}
use Rattle.batch_file.proofs.Going.{walked_more}
use Rattle.batch_file.proofs.walk.Walk.add.Goals as goal

pub returns-clause-walked : goal.returns-clause-walked
returns-clause-walked c = λ batches told h.
    let held = c.in_ok-let_go.ensures in
    let piece = c.args.piece.now in
    let items : c.extend_from_slice.new.self.items ≡ ahead c.args.self.now ++ piece = c.in_ok-extend_from_slice.ensures.items ∙ ap (λ (l : List ℕ). l ++ piece) held.ahead in
    walked_more batches told piece c.args.self.now _ (ap (λ (k : ℕ). drop k c.extend_from_slice.new.self.items) held.start ∙ items) held.last held.end held.number h
