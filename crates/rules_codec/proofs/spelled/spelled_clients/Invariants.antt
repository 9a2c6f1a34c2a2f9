use Rattle.std.proofs.Common.{◌≡◌, map, take}
use Rattle.rules_codec.specs.Facts.{client_fact}
use Rattle.rules_codec.specs.FactsParts.{spelled_client}
use Rattle.rules_codec.proofs.spelled.spelled_clients.Given as goal

abbrev pub invariant-loop-client : goal.invariant-loop-client
invariant-loop-client l = map spelled_client l.spelled.items ≡ map client_fact (take l.client-index l.clients)
