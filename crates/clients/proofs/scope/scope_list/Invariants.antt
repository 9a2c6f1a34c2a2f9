use Rattle.std.proofs.Common.{◌≡◌, [], drop, length}
use Rattle.serde_json.specs.View.{items_view}
use Rattle.clients.specs.Scopes.{scopes_after}
use Rattle.clients.proofs.scope.scope_list.Given as goal

abbrev pub invariant-loop-value : goal.invariant-loop-value
invariant-loop-value l =
    (l.number ≡ l.value-index) × (length l.catalogue ≡ l.number)
    × (scopes_after [] (items_view l.list) ≡ scopes_after l.catalogue (items_view (drop l.value-index l.list)))
