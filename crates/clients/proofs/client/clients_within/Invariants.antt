use Rattle.std.proofs.Common.{◌≡◌, length, map, take, false}
use Rattle.std.specs.Prelude.{All}
use Rattle.clients.specs.Names.{any_twice}
use Rattle.clients.specs.Bounds.{client_had, client_said}
use Rattle.clients.specs.Clients.{ids}
use Rattle.clients.specs.RegistryRules.{IsClientOf}
use Rattle.clients.proofs.client.clients_within.Given as goal

abbrev pub invariant-loop-bound : goal.invariant-loop-bound
invariant-loop-bound l =
    (length l.clients ≡ l.bound-index)
    × (map client_had l.clients ≡ map client_said (take l.bound-index l.bounds))
    × All (IsClientOf l.catalogue) l.clients
    × (any_twice (ids l.clients) ≡ false)
