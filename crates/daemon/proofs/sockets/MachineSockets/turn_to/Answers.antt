use Rattle.daemon.proofs.Asking.{serving_of, wanted_of}
use Rattle.daemon.proofs.sockets.MachineSockets.turn_to.Goals as goal

pub returns-clause-serving : goal.returns-clause-serving
returns-clause-serving g c = serving_of _ _ _ c.ask.ensures

pub returns-clause-wanted : goal.returns-clause-wanted
returns-clause-wanted g c = wanted_of _ _ c.args.with_key c.requires c.ask.ensures
