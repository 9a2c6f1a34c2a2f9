use Rattle.verifier.proofs.WayLaws.{ways_are_run}
use Rattle.verifier.proofs.laws.straight_ways_are_runs.Goals as goal

pub returns : goal.returns
returns c = ways_are_run
