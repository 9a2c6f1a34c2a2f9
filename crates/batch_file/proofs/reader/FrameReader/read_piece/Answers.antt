use Rattle.std.proofs.Common.{◌≡◌, ◌++◌, ◌∙◌, List, ℕ, sym, ap, arith, refl, subst}
use Rattle.batch_file.specs.Readers.{ahead, HasWalked}
use Rattle.batch_file.proofs.Going.{read_more}
use Rattle.batch_file.proofs.reader.FrameReader.read_piece.Goals as goal

pub returns-clause-read : goal.returns-clause-read
returns-clause-read g c = λ batches h.
    let S = g.S.ByteSource in
    let old = c.args.self.now in
    let piece = c.in_ok-piece.piece.items in
    let walked = subst (λ (l : List ℕ). HasWalked batches (S.told old.source ++ l) c.add.new.self) c.deref-2.ensures.value (c.in_ok-add.ensures.walked batches (S.told old.source) h.walked) in
    let ahead_is : ahead c.add.new.self ≡ ahead old.walk ++ piece = c.in_ok-add.ensures.ahead ∙ ap (λ (l : List ℕ). ahead old.walk ++ l) c.deref-2.ensures.value in
    read_more S.told S.is_over batches piece old _ h c.requires walked c.in_ok-piece.ensures.told ahead_is c.in_ok-add.ensures.last refl (λ yes. c.in_ok-piece.ensures.over (omega arith) (sym c.deref.ensures.value ∙ c.is_none-self.ensures.none yes))
