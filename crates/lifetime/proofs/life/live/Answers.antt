use Rattle.std.proofs.Common.{Result, sym, subst}
use Rattle.lifetime.proofs.Names.{StateFault, Plan, life_promises}
use Rattle.lifetime.specs.Lives.{LivesBy, is_refused}
use Rattle.lifetime.proofs.life.live.Goals as goal

pub begin-requires-clause-front : goal.begin-requires-clause-front
begin-requires-clause-front g c = rw c.in-Ok.is at c.requires.front

pub returns-in-Ok-clause-life : goal.returns-in-Ok-clause-life
returns-in-Ok-clause-life g c =
    subst (λ (planned : Result Plan StateFault). LivesBy (life_promises g.D.Device g.N.Sockets g.C.Clocks g.J.Journal) c.args.device planned c.args.means c.begin.result)
    (sym c.in-Ok.is) c.begin.ensures.lives

pub returns-in-Err-clause-life : goal.returns-in-Err-clause-life
returns-in-Err-clause-life g c bytes registry hooks is = rw c.of.ensures (is_refused c.in-Err.fault (rw c.in-Err.is at is))
