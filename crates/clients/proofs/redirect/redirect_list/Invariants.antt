use Rattle.std.proofs.Common.{◌≡◌, [], map, drop, string_bytes}
use Rattle.serde_json.specs.View.{items_view}
use Rattle.clients.specs.Redirect.{redirects_after}
use Rattle.clients.proofs.redirect.redirect_list.Given as goal

abbrev pub invariant-loop-value : goal.invariant-loop-value
invariant-loop-value l =
    redirects_after l.client [] (items_view l.list)
    ≡ redirects_after l.client (map string_bytes l.redirects.items) (items_view (drop l.value-index l.list))
