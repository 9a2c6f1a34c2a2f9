use Rattle.std.proofs.Common.{rules}
use Rattle.endpoints.proofs.Shorter.{state_short}
use Rattle.endpoints.proofs.authorize.query.Goals as goal

pub returns-in-Ok-clause-short : goal.returns-in-Ok-clause-short
returns-in-Ok-clause-short c = state_short c.args.request.now.target.now c.in-Ok.params (search rules)
