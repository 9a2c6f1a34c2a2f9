use Rattle.std.proofs.Common.{◌≡◌, map, take}
use Rattle.clients.specs.Bounds.{client_had, client_said}
use Rattle.clients.proofs.client.Clients.bounds.Given as goal

abbrev pub invariant-loop-client : goal.invariant-loop-client
invariant-loop-client l = map client_said l.bounds.items ≡ map client_had (take l.client-index l.client-items)
