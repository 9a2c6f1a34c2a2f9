use Rattle.consent.specs.Changes.{as_list}
use Rattle.endpoints.proofs.Besides.{made}
use Rattle.endpoints.proofs.server.Server.apply.Goals as goal

pub returns-clause-makes : goal.returns-clause-makes
returns-clause-makes g c =
    rw (← c.self.view_is) (made g.H.HookHost _ _ _ _ _ _ (as_list c.args.changes.now) _ c.make_beside.ensures.consents c.make_beside.ensures.hosts c.apply.ensures)

pub returns-clause-notes : goal.returns-clause-notes
returns-clause-notes g c =
    rw (← c.self.view_is) (c.note_prepared.ensures c.self.inside.greatest c.args.changes.now (rw (← c.self.view_is) at c.requires.rooms.notes))
