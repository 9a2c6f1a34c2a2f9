use Rattle.state_keeper.proofs.Walked.{at_rules}
use Rattle.state_keeper.specs.declared.course.Stage.TheVariants as stage
use Rattle.state_keeper.proofs.passing.advance.Goals as goal

pub returns-in-Counting-clause-on : goal.returns-in-Counting-clause-on
returns-in-Counting-clause-on g c =
    at_rules g.D.Device c.args.rules.now c.args.file.now c.count.new.file c.args.course.now c.count.new.course stage.Counting c.args.stage c.count.result c.in-Counting.is c.count.ensures.on

pub returns-in-Noting-clause-on : goal.returns-in-Noting-clause-on
returns-in-Noting-clause-on g c =
    at_rules g.D.Device c.args.rules.now c.args.file.now c.note.new.file c.args.course.now c.note.new.course (stage.Noting c.in-Noting.unexpired) c.args.stage c.note.result c.in-Noting.is c.note.ensures.on

pub returns-in-Listing-clause-on : goal.returns-in-Listing-clause-on
returns-in-Listing-clause-on g c =
    at_rules g.D.Device c.args.rules.now c.args.file.now c.list.new.file c.args.course.now c.list.new.course (stage.Listing c.in-Listing.listing) c.args.stage c.list.result c.in-Listing.is c.list.ensures.on

pub returns-in-Leaving-clause-on : goal.returns-in-Leaving-clause-on
returns-in-Leaving-clause-on g c =
    at_rules g.D.Device c.args.rules.now c.args.file.now c.leave.new.file c.args.course.now c.leave.new.course (stage.Leaving c.in-Leaving.leaving c.in-Leaving.batch c.in-Leaving.draft) c.args.stage c.leave.result c.in-Leaving.is c.leave.ensures.on

pub returns-in-Following-clause-on : goal.returns-in-Following-clause-on
returns-in-Following-clause-on g c =
    at_rules g.D.Device c.args.rules.now c.args.file.now c.follow.new.file c.args.course.now c.follow.new.course (stage.Following c.in-Following.draft) c.args.stage c.follow.result c.in-Following.is c.follow.ensures.on
