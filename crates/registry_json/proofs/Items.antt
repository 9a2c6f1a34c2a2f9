-- The items of a JSON list.
use Rattle.std.proofs.Common.{◌≡◌, List, [], ◌∷◌, length, ap, refl, suc}
use Rattle.serde_json.specs.View.{items_view}
use Rattle.serde_json.specs.declared.value.Value.{Value}
use Rattle.registry_json.specs.Json.{item_count}

-- there are as many items as values
pub item_count_of : (values : List Value) → item_count (items_view values) ≡ length values
item_count_of [] = refl
item_count_of (v ∷ vs) = ap suc (item_count_of vs)
