use Rattle.std.proofs.Common.{◌≡◌, ◌+◌, ◌∷◌, ◌∙◌, drop, Some, Ok, sym, ap, rules}
use Rattle.std.proofs.lemmas.List.{drop_more}
use Rattle.clients.proofs.Names.{view, items_view}
use Rattle.registry_json.specs.Faults.{◌>>=◌}
use Rattle.clients.specs.Grants.{with_grant, grant_type_of, grants_after}
use Rattle.registry_json.specs.Spots.{located}
use Rattle.registry_json.specs.declared.spot.ClientSpot.TheVariants.{Grants}
use Rattle.registry_json.specs.declared.spot.Spot.TheVariants.{Client}
use Rattle.clients.proofs.grant.grant_set.Goals as goal

pub loop-value-preserved : goal.loop-value-preserved
loop-value-preserved c =
    let list = c.args.list.now in
    let i = c.loop-value.value-index in
    let v = c.value-item.result in
    let client = c.args.client in
    let n = c.loop-value.number in
    let next : drop i list ≡ v ∷ drop (i + 1) list = drop_more list i v c.loop-value-test.true ∙ ap (λ x. x ∷ drop (i + 1) list) (sym c.value-item.is) in
    let read : located (Client client (Grants (Some n))) (grant_type_of (view v)) ≡ Ok c.in_ok-located.field-0 = search rules in (
      ap (λ k. k + 1) c.loop-value.invariant.0,
      c.loop-value.invariant.1 ∙ ap (λ vs. grants_after client n c.loop-value.grants (items_view vs)) next
          ∙ ap (λ r. r >>= λ grant. grants_after client (n + 1) (with_grant grant c.loop-value.grants) (items_view (drop (i + 1) list))) read
          ∙ ap (λ grants. grants_after client (n + 1) grants (items_view (drop (i + 1) list))) (sym c.with-grants.ensures),
    )
