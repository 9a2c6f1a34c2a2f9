use Rattle.std.proofs.Common.{◌≡◌, [], drop, length}
use Rattle.clients.specs.Owners.{are_numbered, owners_after}
use Rattle.clients.specs.OwnersLaws.{AreFree}
use Rattle.clients.proofs.Names.{items_view}
use Rattle.clients.proofs.owner.owner_list.Given as goal

abbrev pub invariant-loop-value : goal.invariant-loop-value
invariant-loop-value l =
    (length l.owners.owners ≡ l.value-index)
    × (l.owners.numbered ≡ are_numbered (items_view l.list))
    × AreFree l.owners.numbered l.owners.owners
    × (owners_after (are_numbered (items_view l.list)) [] (items_view l.list)
    ≡ owners_after (are_numbered (items_view l.list)) l.owners.owners (items_view (drop l.value-index l.list)))
