use Rattle.std.proofs.Common.{inl, refl, arith}
use Rattle.state_keeper.proofs.Went.{ready, same_go, same_way, went_on, went_slice}
use Rattle.state_keeper.proofs.passing.go_on.Goals as goal

pub returns-then-is_ready-clause-ready : goal.returns-then-is_ready-clause-ready
returns-then-is_ready-clause-ready g c = λ is.
    ready g.D.Device c.args.rules.now c.args.file.now c.ended.new.shortening c.requires.on_disk
    (same_way g.D.Device c.args.rules.now c.args.file.now c.args.shortening.now c.ended.new.shortening c.ended.ensures.course c.ended.ensures.stage c.requires.begun) (c.ended.ensures.ready is)

pub returns-then-is_ready-clause-slice : goal.returns-then-is_ready-clause-slice
returns-then-is_ready-clause-slice g c = λ true.
    let same = same_go c.args.shortening.now c.ended.new.shortening c.args.file.now.end c.ended.ensures.course c.ended.ensures.stage in (0, inl refl, omega (arith, same))

pub returns-clause-ready : goal.returns-clause-ready
returns-clause-ready g c = λ is.
    ready g.D.Device c.args.rules.now c.go_over.new.file c.ended-2.new.shortening c.in_ok-stage.ensures.file.stands.settled
    (went_on g.D.Device c.args.rules.now c.args.file.now c.go_over.new.file c.args.shortening.now c.ended-2.new.shortening c.go_over.new.course c.replace-was.result c.in_ok-stage.stage
    c.in_ok-stage.ensures.file c.replace-was.ensures.value c.ended-2.ensures.course c.ended-2.ensures.stage c.in_ok-stage.ensures.on c.requires.begun) (c.ended-2.ensures.ready is)

pub returns-clause-slice : goal.returns-clause-slice
returns-clause-slice g c =
    went_slice g.D.Device c.args.rules.now c.args.file.now c.go_over.new.file c.args.shortening.now c.ended-2.new.shortening c.go_over.new.course c.replace-was.result c.in_ok-stage.stage
    c.in_ok-stage.ensures.file c.replace-was.ensures.value c.ended-2.ensures.course c.ended-2.ensures.stage c.in_ok-stage.ensures.on c.requires.begun c.in_ok-stage.ensures.slice
