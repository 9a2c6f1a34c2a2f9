use Rattle.std.proofs.Common.{◌∙◌, refl}
use Rattle.batch_file.proofs.Going.{goes_further, is_spent, none_told, some_told}
use Rattle.batch_file.proofs.reader.FrameReader.next_batch.Goals as goal

pub returns-in_default-clause-none : goal.returns-in_default-clause-none
returns-in_default-clause-none g c = λ batches h.
    let S = g.S.ByteSource in
    let filled = c.in_ok-fill_frame.ensures in
    let found = c.in_ok-found.found in
    is_spent S.told S.is_over batches c.fill_frame.new.self _ (filled.read batches h) refl (none_told found c.in_default.is c.in_ok-found.ensures.stays) refl filled.decided (none_told found c.in_default.is c.in_ok-found.ensures.none)

pub returns-clause-read : goal.returns-clause-read
returns-clause-read g c = λ batches h.
    let S = g.S.ByteSource in
    let filled = c.in_ok-fill_frame.ensures in
    let now = filled.read batches h in
    let step = some_told _ c.in_ok-found.found c.in-Some.batch c.in-Some.is c.in_ok-found.ensures.read in
    goes_further S.told S.is_over batches c.in-Some.batch.items c.fill_frame.new.self _ now (step batches (S.told c.fill_frame.new.self.source) now.walked) refl refl (filled.same.spent ∙ c.if-self.false)
