use Rattle.endpoints.proofs.Remade.{finished}
use Rattle.endpoints.proofs.remaking.Remaking.finish.Goals as goal

pub returns-clause-fits : goal.returns-clause-fits
returns-clause-fits g c =
    rw (← c.self.view_is) (rw c.going_on.ensures (finished g.H.HookHost _ _ c.args.until c.greater-moment.result c.greater-moment.ensures
    (λ list fits. c.settle.ensures.fits list c.greater-moment.result (c.drop_records.ensures list fits))))
