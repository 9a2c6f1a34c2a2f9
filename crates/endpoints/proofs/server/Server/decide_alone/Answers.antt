use Rattle.std.proofs.Common.{None, subst, sym}
use Rattle.endpoints.proofs.Names.{asked_of, Setting, Decides, noted_in, prepared_in, query_points, setting_now}
use Rattle.endpoints.proofs.server.Server.decide_alone.Goals as goal

pub returns-in-Authorize-clause-decides : goal.returns-in-Authorize-clause-decides
returns-in-Authorize-clause-decides g c =
    rw (← c.self.view_is, c.in-Authorize.is) (λ alone read first history fits.
    let s : Setting = setting_now g.H.HookHost (record { rules = c.self.inside.rules; host = c.self.inside.host; store = c.self.inside.store; consents = c.self.inside.consents; greatest = c.self.inside.greatest; unkept = noted_in c.self.inside.unkept; prepared = prepared_in c.self.inside.unkept }) history c.args.draws.now None in
    subst (λ points. Decides s c.authorize.result points) (sym (read (query_points s (asked_of c.args.request.now))))
    (c.authorize.ensures.decides history s.host (record { store = fits.store; consents = fits.consents })))

pub returns-in-Read-clause-decides : goal.returns-in-Read-clause-decides
returns-in-Read-clause-decides g c =
    rw (← c.self.view_is, c.in-Read.is) (λ alone read first history fits.
    let s : Setting = setting_now g.H.HookHost (record { rules = c.self.inside.rules; host = c.self.inside.host; store = c.self.inside.store; consents = c.self.inside.consents; greatest = c.self.inside.greatest; unkept = noted_in c.self.inside.unkept; prepared = prepared_in c.self.inside.unkept }) history c.args.draws.now None in
    c.tell.ensures.decides history s.host (record { store = fits.store; consents = fits.consents }))
