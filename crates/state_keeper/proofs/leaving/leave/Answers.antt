use Rattle.std.proofs.Common.{List, subst}
use Rattle.state_keeper.proofs.Names.{DatedChange, dated_facts}
use Rattle.state_keeper.proofs.Walked.{leave_on, leave_turns, told_by}
use Rattle.state_keeper.proofs.Way.{keeps_then, written_same}
use Rattle.state_keeper.specs.Passing.{AreWritten}
use Rattle.state_keeper.specs.PassingParts.{LeadsTo, StaysLeft}
use Rattle.state_keeper.proofs.leaving.leave.Goals as goal

pub returns-then-course-clause-on : goal.returns-then-course-clause-on
returns-then-course-clause-on g c = λ rules.
    leave_turns g.D.Device rules c.args.file.now c.finish.new.file c.args.course.now c.in_ok-done.ensures.file c.args.leaving c.args.batch c.args.draft c.in_ok-done.done c.if-course.true
    c.in_ok-done.ensures.finished

pub returns-clause-on : goal.returns-clause-on
returns-clause-on g c = λ rules.
    let device = g.D.Device in
    let old = c.args.file.now in
    let mid = c.frame_at.new.file in
    let new = c.gather.new.file in
    let frame = c.in_ok-frame.frame in
    let told = told_by frame.bytes.items c.deref.result.now c.in_ok-changes.changes.items c.deref-2.result.now c.deref.ensures.value c.deref-2.ensures.value c.in_ok-changes.ensures.told in
    leave_on device rules old new c.args.course.now (keeps_then device old mid new c.in_ok-frame.ensures.file c.in_ok-gather.ensures.file) frame (dated_facts c.deref-2.result.now)
    c.in_ok-frame.ensures.ends c.in_ok-frame.ensures.within (λ true. c.in_ok-frame.ensures.read (c.in_ok-gather.ensures.file.truth true)) told
    c.args.leaving c.staying.new.leaving c.args.batch c.gather.new.batch c.args.draft c.gather.new.draft (dated_facts c.in_ok-stay.stay.items)
    c.in_ok-stay.ensures.picked c.in_ok-stay.ensures.rest
    (subst (λ (ds : List DatedChange).
    LeadsTo (AreWritten device old c.args.draft) (AreWritten device new c.gather.new.draft) (StaysLeft c.args.batch.facts (dated_facts ds) c.gather.new.batch.facts)
    ) c.deref-3.ensures.value
    (λ written was. c.in_ok-gather.ensures.gathered written (written_same device old mid c.args.draft written c.in_ok-frame.ensures.next was)))
