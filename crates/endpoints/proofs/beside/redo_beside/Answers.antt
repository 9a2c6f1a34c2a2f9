use Rattle.endpoints.proofs.beside.redo_beside.Goals as goal

pub returns-clause-hosts : goal.returns-clause-hosts
returns-clause-hosts g c m = c.make_one.ensures.hosts m c.in_ok-checked.ensures.can
