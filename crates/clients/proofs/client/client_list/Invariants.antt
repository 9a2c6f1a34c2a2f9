use Rattle.std.proofs.Common.{◌≡◌, [], drop, length}
use Rattle.clients.proofs.Names.{items_view, clients_after}
use Rattle.clients.proofs.client.client_list.Given as goal

abbrev pub invariant-loop-value : goal.invariant-loop-value
invariant-loop-value l =
    (length l.clients ≡ l.value-index)
    × (clients_after l.catalogue [] (items_view l.list)
    ≡ clients_after l.catalogue l.clients (items_view (drop l.value-index l.list)))
