use Rattle.std.proofs.Common.{◌≡◌, ◌+◌, ◌++◌, ◌∷◌, [], ◌∙◌, drop, length, length-append, Some, Ok, sym, ap, rules, arith}
use Rattle.std.proofs.lemmas.List.{drop_more}
use Rattle.clients.proofs.Names.{view, items_view}
use Rattle.registry_json.specs.Faults.{◌>>=◌}
use Rattle.clients.specs.FaultsLaws.{located_is}
use Rattle.clients.specs.Owners.{are_numbered, owner_of, owners_after}
use Rattle.clients.specs.OwnersLaws.{AreFree-push, owner-read}
use Rattle.registry_json.specs.Spots.{located}
use Rattle.registry_json.specs.declared.spot.Spot.TheVariants as spot
use Rattle.clients.proofs.owner.owner_list.Goals as goal

pub loop-value-preserved : goal.loop-value-preserved
loop-value-preserved c =
    let list = c.args.list.now in
    let i = c.loop-value.value-index in
    let v = c.value-item.result in
    let owners = c.loop-value.owners.owners in
    let numbered = c.loop-value.owners.numbered in
    let owner = c.in_ok-located.field-0 in
    let before = c.loop-value.invariant in
    let next : drop i list ≡ v ∷ drop (i + 1) list = drop_more list i v c.loop-value-test.true ∙ ap (λ x. x ∷ drop (i + 1) list) (sym c.value-item.is) in
    let read : located (spot.Owners (Some (length owners))) (owner_of numbered owners (view v)) ≡ Ok owner = search rules in
    let new = owner-read numbered owners (view v) owner before.2 (located_is (spot.Owners (Some (length owners))) (owner_of numbered owners (view v)) owner read) in
    let count : length (owners ++ owner ∷ []) ≡ i + 1 = omega (arith, length-append owners (owner ∷ []), before.0) in
    let after : owners_after numbered owners (items_view (drop i list)) ≡ owners_after numbered (owners ++ owner ∷ []) (items_view (drop (i + 1) list)) =
    ap (λ vs. owners_after numbered owners (items_view vs)) next
    ∙ ap (λ r. r >>= λ o. owners_after numbered (owners ++ o ∷ []) (items_view (drop (i + 1) list))) read in
    rw c.in_ok-push.ensures.ok (
      count,
      before.1,
      AreFree-push numbered owners owner before.2 new.place,
      before.3 ∙ rw before.1 at after,
    )
