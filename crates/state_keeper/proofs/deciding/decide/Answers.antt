use Rattle.std.proofs.Common.{sym, ◌∙◌}
use Rattle.state_keeper.proofs.Names.{dated_facts}
use Rattle.state_keeper.proofs.Walked.{decide_on, decide_turns, told_by}
use Rattle.state_keeper.proofs.Way.{keeps_none}
use Rattle.state_keeper.proofs.deciding.decide.Goals as goal

pub returns-in_default-clause-file : goal.returns-in_default-clause-file
returns-in_default-clause-file g c =
    keeps_none g.D.Device c.args.file.now (λ left is. g.met.D.Device.only_now c.args.file.now.device left is) (λ left is. g.met.D.Device.only_true c.args.file.now.device left is) c.requires

pub returns-then-has_none-clause-on : goal.returns-then-has_none-clause-on
returns-then-has_none-clause-on g c =
    decide_turns g.D.Device c.args.rules.now c.args.file.now c.begin.new.file c.args.course.now c.in_ok-draft.ensures.file c.args.course.now.starts c.args.deciding c.leaving.result
    c.in_ok-batch.batch c.in_ok-draft.draft (sym c.deref.ensures.value ∙ c.has_none.ensures c.if-has_none.true) c.in_ok-batch.ensures.facts c.in_ok-draft.ensures.begun c.leaving.ensures

pub returns-clause-on : goal.returns-clause-on
returns-clause-on g c =
    let frame = c.in_ok-frame.frame in
    let told = told_by frame.bytes.items c.deref-2.result.now c.in_ok-changes.changes.items c.deref-3.result.now c.deref-2.ensures.value c.deref-3.ensures.value c.in_ok-changes.ensures.told in
    decide_on g.D.Device c.args.rules.now c.args.file.now c.frame_at.new.file c.args.course.now c.in_ok-frame.ensures.file c.in-Some.start frame (dated_facts c.deref-3.result.now)
    c.pop_start.new.starts c.args.deciding c.decide_changes.new.deciding c.in_ok-frame.ensures.ends c.in_ok-frame.ensures.within c.in_ok-frame.ensures.read told c.in-Some.ensures
    c.in_ok-decide_changes.ensures
