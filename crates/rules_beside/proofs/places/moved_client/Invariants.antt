use Rattle.std.proofs.Common.{◌≡◌, length, map}
use Rattle.rules_codec.specs.Facts.{client_fact}
use Rattle.rules_beside.specs.Places.{client_names, first_moved}
use Rattle.rules_beside.proofs.places.moved_client.Given as goal

abbrev pub decreases-loop-rest : goal.decreases-loop-rest
decreases-loop-rest l = length l.rest

abbrev pub invariant-loop-rest : goal.invariant-loop-rest
invariant-loop-rest l = first_moved (client_names (map client_fact l.told)) (client_names (map client_fact l.now))
    ≡ first_moved (client_names (map client_fact l.rest)) (client_names (map client_fact l.beside))
