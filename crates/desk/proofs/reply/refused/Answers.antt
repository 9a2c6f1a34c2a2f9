use Rattle.desk.proofs.reply.refused.Goals as goal

pub returns-in-Some : goal.returns-in-Some
returns-in-Some c = rw c.in-Some.is c.told.ensures
