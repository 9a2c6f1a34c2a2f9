use Rattle.batch_file.proofs.Steps.{unmoved}
use Rattle.batch_file.proofs.appending.BatchFile.fill.Goals as goal

pub returns-then-self-need-clause-any_moment : goal.returns-then-self-need-clause-any_moment
returns-then-self-need-clause-any_moment g c =
    let D = g.D.Device in
    let old = c.args.self.now in
    unmoved D.may_leave old.end old.room old.last (D.seen old.device) c.requires.stands.at_rest (g.met.D.Device.only_now old.device) c.requires.stands.durable
