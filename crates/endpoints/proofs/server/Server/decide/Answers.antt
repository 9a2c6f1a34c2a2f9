use Rattle.std.proofs.Common.{[], None}
use Rattle.endpoints.proofs.Names.{noted_in, prepared_in, setting_now}
use Rattle.endpoints.proofs.Ruled.{alone_fair, alone_of, alone_ruling, if_can_take, install_ruled, remove_ruled}
use Rattle.endpoints.proofs.server.Server.decide.Goals as goal

pub returns-in-InstallHook-clause-rules : goal.returns-in-InstallHook-clause-rules
returns-in-InstallHook-clause-rules g c =
    rw (← c.self.view_is, c.in-InstallHook.is) (λ read first history fits. install_ruled g.H.HookHost _ history _ _ _ first fits c.install.result read (c.install.ensures.rules (setting_now g.H.HookHost (record { rules = c.self.inside.rules; host = c.self.inside.host; store = c.self.inside.store; consents = c.self.inside.consents; greatest = c.self.inside.greatest; unkept = noted_in c.self.inside.unkept; prepared = prepared_in c.self.inside.unkept }) history c.args.draws.now None)))

pub returns-in-RemoveHook-clause-rules : goal.returns-in-RemoveHook-clause-rules
returns-in-RemoveHook-clause-rules g c =
    rw (← c.self.view_is, c.in-RemoveHook.is) (λ read first history fits. remove_ruled g.H.HookHost _ history _ _ _ first fits c.remove.result read (c.remove.ensures.rules (setting_now g.H.HookHost (record { rules = c.self.inside.rules; host = c.self.inside.host; store = c.self.inside.store; consents = c.self.inside.consents; greatest = c.self.inside.greatest; unkept = noted_in c.self.inside.unkept; prepared = prepared_in c.self.inside.unkept }) history c.args.draws.now None)))

pub returns-in-Ok-clause-rules : goal.returns-in-Ok-clause-rules
returns-in-Ok-clause-rules g c = λ read first history fits.
    let alone = alone_of _ c.in_default.not-InstallHook c.in_default.not-RemoveHook in
    alone_ruling g.H.HookHost _ history _ c.in-Ok.decision (alone_fair g.H.HookHost _ first history _ _ fits _ alone) (c.in-Ok.ensures.decides alone read first history fits)

pub returns-in-InstallHook-clause-hook : goal.returns-in-InstallHook-clause-hook
returns-in-InstallHook-clause-hook g c =
    let scene = setting_now g.H.HookHost (record { rules = c.self.inside.rules; host = c.self.inside.host; store = c.self.inside.store; consents = c.self.inside.consents; greatest = c.self.inside.greatest; unkept = noted_in c.self.inside.unkept; prepared = prepared_in c.self.inside.unkept }) [] c.args.draws.now None in
    rw (← c.self.view_is) (if_can_take g.H.HookHost c.self.inside.host scene _ c.install.result (c.install.ensures.rules scene))

pub returns-in-RemoveHook-clause-hook : goal.returns-in-RemoveHook-clause-hook
returns-in-RemoveHook-clause-hook g c =
    let scene = setting_now g.H.HookHost (record { rules = c.self.inside.rules; host = c.self.inside.host; store = c.self.inside.store; consents = c.self.inside.consents; greatest = c.self.inside.greatest; unkept = noted_in c.self.inside.unkept; prepared = prepared_in c.self.inside.unkept }) [] c.args.draws.now None in
    rw (← c.self.view_is) (if_can_take g.H.HookHost c.self.inside.host scene _ c.remove.result (c.remove.ensures.rules scene))
