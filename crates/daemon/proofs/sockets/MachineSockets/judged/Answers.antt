use Rattle.daemon.proofs.sockets.MachineSockets.judged.Goals as goal

pub returns-in-Some-clause-sent : goal.returns-in-Some-clause-sent
returns-in-Some-clause-sent g c = c.judge.ensures.sent

pub returns-in-Some-clause-sent_too : goal.returns-in-Some-clause-sent_too
returns-in-Some-clause-sent_too g c = c.judge.ensures.sent_too
