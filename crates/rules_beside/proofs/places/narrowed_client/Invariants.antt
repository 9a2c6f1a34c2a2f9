use Rattle.std.proofs.Common.{◌≡◌, length, map}
use Rattle.rules_codec.specs.Facts.{client_fact}
use Rattle.rules_beside.specs.Places.{first_narrowed}
use Rattle.rules_beside.proofs.places.narrowed_client.Given as goal

abbrev pub decreases-loop-rest : goal.decreases-loop-rest
decreases-loop-rest l = length l.rest

abbrev pub invariant-loop-rest : goal.invariant-loop-rest
invariant-loop-rest l = first_narrowed (map client_fact l.told) (map client_fact l.now) ≡ first_narrowed (map client_fact l.rest) (map client_fact l.beside)
