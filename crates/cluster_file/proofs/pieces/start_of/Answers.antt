use Rattle.std.proofs.Common.{◌-◌, arith}
use Rattle.cluster_file.proofs.Places.{index_one}
use Rattle.cluster_file.proofs.pieces.start_of.Goals as goal

pub returns : goal.returns
returns c = index_one c.args.starts.now (c.halves.low - 1) (omega arith)
