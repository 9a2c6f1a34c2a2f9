use Rattle.daemon.proofs.Asking.{sent_by, sent_too_by}
use Rattle.daemon.proofs.reloads.Reloads.judge.Goals as goal

pub returns-clause-sent : goal.returns-clause-sent
returns-clause-sent g c = sent_by c.args.bytes.now c.args.self.now.key c.judge.result c.judge.ensures

pub returns-clause-sent_too : goal.returns-clause-sent_too
returns-clause-sent_too g c = sent_too_by c.args.bytes.now c.args.self.now.key c.judge.result c.judge.ensures
