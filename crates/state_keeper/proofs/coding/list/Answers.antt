use Rattle.state_keeper.proofs.Names.{dated_facts}
use Rattle.state_keeper.proofs.Walked.{list_turns, list_on, told_by}
use Rattle.state_keeper.proofs.Way.{keeps_none}
use Rattle.state_keeper.proofs.coding.list.Goals as goal

pub returns-then-course-clause-file : goal.returns-then-course-clause-file
returns-then-course-clause-file g c =
    keeps_none g.D.Device c.args.file.now (λ left is. g.met.D.Device.only_now c.args.file.now.device left is)
    (λ left is. g.met.D.Device.only_true c.args.file.now.device left is) c.requires

pub returns-then-course-clause-on : goal.returns-then-course-clause-on
returns-then-course-clause-on g c = λ rules.
    let keeps = returns-then-course-clause-file g c in
    list_turns g.D.Device rules c.args.file.now c.args.file.now c.args.course.now keeps c.args.listing c.known.result c.of-deciding.result c.if-course.true c.known.ensures c.of-deciding.ensures

pub returns-clause-on : goal.returns-clause-on
returns-clause-on g c = λ rules.
    let frame = c.in_ok-frame.frame in
    let told = told_by frame.bytes.items c.deref.result.now c.in_ok-changes.changes.items c.deref-2.result.now c.deref.ensures.value c.deref-2.ensures.value c.in_ok-changes.ensures.told in
    list_on g.D.Device rules c.args.file.now c.frame_at.new.file c.args.course.now c.in_ok-frame.ensures.file frame (dated_facts c.deref-2.result.now)
    c.in_ok-frame.ensures.ends c.in_ok-frame.ensures.within c.in_ok-frame.ensures.read told c.args.listing c.list_changes.new.listing c.in_ok-list_changes.ensures
