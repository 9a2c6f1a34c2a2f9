use Rattle.std.proofs.Common.{◌≡◌, drop}
use Rattle.serde_json.specs.View.{items_view}
use Rattle.clients.specs.Grants.{no_grants, grants_after}
use Rattle.clients.proofs.grant.grant_set.Given as goal

abbrev pub invariant-loop-value : goal.invariant-loop-value
invariant-loop-value l =
    (l.number ≡ l.value-index)
    × (grants_after l.client 0 no_grants (items_view l.list) ≡ grants_after l.client l.number l.grants (items_view (drop l.value-index l.list)))
