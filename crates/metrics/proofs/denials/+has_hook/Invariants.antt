use Rattle.std.proofs.Common.{length}
use Rattle.metrics.proofs.denials.+has_hook.Given as goal

abbrev pub decreases-has_hook : goal.decreases-has_hook
decreases-has_hook l = length l.by.now
