use Rattle.desk.proofs.Refusals.{refused_state}
use Rattle.desk.proofs.not_begun.state_reply.Goals as goal

pub returns : goal.returns
returns c = refused_state c.args.fault.now c.as_str.result.now c.refused_nowhere.result c.in_default.not-Memory c.refused_nowhere.ensures
