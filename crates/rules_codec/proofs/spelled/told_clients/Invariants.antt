use Rattle.std.proofs.Common.{◌≡◌, map, take}
use Rattle.rules_codec.specs.Facts.{client_fact}
use Rattle.rules_codec.specs.FactsParts.{spelled_client}
use Rattle.rules_codec.proofs.spelled.told_clients.Given as goal

abbrev pub invariant-loop-client : goal.invariant-loop-client
invariant-loop-client l = map client_fact l.clients.items ≡ map spelled_client (take l.client-index l.spelled)
