use Rattle.std.proofs.Common.{◌++◌, ◌∷◌, [], ℕ, List, subst}
use Rattle.state_keeper.proofs.Walked.{follow_on}
use Rattle.state_keeper.proofs.Way.{keeps_then, written_same}
use Rattle.state_keeper.specs.Passing.{AreWritten}
use Rattle.state_keeper.proofs.following.follow.Goals as goal

pub returns-clause-on : goal.returns-clause-on
returns-clause-on g c = λ rules.
    let device = g.D.Device in
    let old = c.args.file.now in
    let mid = c.frame_at.new.file in
    let new = c.add.new.file in
    follow_on device rules old new c.args.course.now (keeps_then device old mid new c.in_ok-frame.ensures.file c.in_ok-add.ensures.file) c.in_ok-frame.frame c.args.draft c.add.new.self
    c.in_ok-frame.ensures.ends c.in_ok-frame.ensures.within (λ true. c.in_ok-frame.ensures.read (c.in_ok-add.ensures.file.truth true)) c.requires
    (λ batches are.
    subst (λ (b : List ℕ). AreWritten device new c.add.new.self (batches ++ b ∷ [])) c.deref.ensures.value
    (c.in_ok-add.ensures.added batches (written_same device old mid c.args.draft batches c.in_ok-frame.ensures.next are))
    )
