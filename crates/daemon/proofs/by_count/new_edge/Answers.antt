use Rattle.endpoints.specs.Server.{outset_of}
use Rattle.daemon.proofs.by_count.new_edge.Goals as goal

pub returns : goal.returns
returns c = c.new.ensures.begun (outset_of c.args.registry c.args.hooks) c.new-server.ensures.fits c.new-server.ensures.notes
