use Rattle.std.proofs.Common.{length}
use Rattle.metrics.proofs.denials.+denier.Given as goal

abbrev pub decreases-denier : goal.decreases-denier
decreases-denier l = length l.entries.now
