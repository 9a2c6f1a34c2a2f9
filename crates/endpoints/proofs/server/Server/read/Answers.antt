use Rattle.endpoints.proofs.server.Server.read.Goals as goal

pub returns-clause-read : goal.returns-clause-read
returns-clause-read g c = rw (← c.self.view_is) c.read.ensures.read
