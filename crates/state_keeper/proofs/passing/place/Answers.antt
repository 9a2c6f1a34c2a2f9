use Rattle.std.proofs.Common.{◌≡◌, ℕ, List, subst}
use Rattle.batch_file.specs.Frames.{AreNext}
use Rattle.state_keeper.proofs.Names.{recovered}
use Rattle.state_keeper.proofs.Walked.{on_ok}
use Rattle.state_keeper.specs.Passing.{IsReady}
use Rattle.state_keeper.specs.declared.course.Draft.{Draft}
use Rattle.state_keeper.proofs.passing.place.Goals as goal

pub returns-in-Following-clause-placed : goal.returns-in-Following-clause-placed
returns-in-Following-clause-placed g c =
    let device = g.D.Device in
    on_ok c.place_next.result
    ((batches : List (List ℕ)) → AreNext device.next c.args.file.now c.in-Following.draft.next batches → recovered (device.seen c.place_next.new.self.device) ≡ batches)
    ((ready : IsReady device c.args.file.now c.args.shortening.now) → recovered (device.seen c.place_next.new.self.device) ≡ ready.batches)
    (λ placed ready.
    let same : ready.draft ≡ c.in-Following.draft = cc in
    placed ready.batches (subst (λ (d : Draft). AreNext device.next c.args.file.now d.next ready.batches) same ready.written.next)
    ) c.place_next.ensures.replaced

pub returns-in-Following-clause-any_moment : goal.returns-in-Following-clause-any_moment
returns-in-Following-clause-any_moment g c = λ ready.
    let same : ready.draft ≡ c.in-Following.draft = cc in
    c.place_next.ensures.any_moment ready.batches (subst (λ (d : Draft). AreNext g.D.Device.next c.args.file.now d.next ready.batches) same ready.written.next)

pub returns-in-Following-clause-readable : goal.returns-in-Following-clause-readable
returns-in-Following-clause-readable g c = λ ready. c.place_next.ensures.readable
