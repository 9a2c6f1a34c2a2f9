use Rattle.endpoints.proofs.server.Server.sweep.Goals as goal

pub returns-clause-kept : goal.returns-clause-kept
returns-clause-kept g c = rw (← c.self.view_is) c.let_go.ensures.kept
