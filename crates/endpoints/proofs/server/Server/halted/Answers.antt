use Rattle.endpoints.proofs.Names.{asked_of}
use Rattle.endpoints.proofs.Shorter.{ended}
use Rattle.endpoints.specs.Rulings.{asking_at}
use Rattle.endpoints.specs.RulingsParts.{heeding}
use Rattle.endpoints.proofs.server.Server.halted.Goals as goal

pub returns : goal.returns
returns g c =
    ended g.H.HookHost c.args.self.now (heeding (asking_at c.args.endpoint (asked_of c.args.request.now) c.args.draws.now) c.args.interest) c.args.halt c.in-Refuse.error _ _ _ _
    c.in-Refuse.is c.status_of.ensures c.in_ok-reply.ensures c.refused.ensures c.in_ok-told.ensures
