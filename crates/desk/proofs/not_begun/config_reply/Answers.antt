use Rattle.desk.proofs.Refusals.{refused_there}
use Rattle.desk.proofs.not_begun.config_reply.Goals as goal

pub returns : goal.returns
returns c =
    rw c.in-Some.is (refused_there c.as_str-in-Some.result.now c.as_str-in-Some-2.result.now c.refused_there.result c.refused_there.ensures)
