use Rattle.std.proofs.Common.{length}
use Rattle.std.specs.Prelude.{IsUtf8}
use Rattle.standby.proofs.Named.{IsReadTo}
use Rattle.standby.proofs.addresses.addresses_of.Given as goal

abbrev pub invariant-loop-url : goal.invariant-loop-url
invariant-loop-url g l = record { text : IsUtf8 l.rest; read : IsReadTo l.members l.rest l.found.items }

abbrev pub decreases-loop-url : goal.decreases-loop-url
decreases-loop-url g l = length l.rest
