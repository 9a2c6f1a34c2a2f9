use Rattle.std.proofs.Common.{◌≡◌, ◌∷◌, ◌++◌, ◌+◌, [], List, map, take, ap, sym, ◌∙◌}
use Rattle.std.proofs.lemmas.List.{map-append, take_more}
use Rattle.change_codec.specs.Rules.{OwnerFact}
use Rattle.clients.specs.declared.bounds.OwnerBounds.{OwnerBounds}
use Rattle.rules_codec.specs.Facts.{owner_fact}
use Rattle.rules_codec.specs.FactsParts.{spelled_owner}
use Rattle.rules_codec.proofs.spelled.spelled_owners.Goals as goal

pub loop-owner-preserved : goal.loop-owner-preserved
loop-owner-preserved c =
    let xs = c.args.owners.now in
    let i = c.loop-owner.owner-index in
    let x = c.owner-item.result in
    let more : map owner_fact (take (i + 1) xs) ≡ map owner_fact (take i xs) ++ owner_fact x ∷ [] =
    ap (map owner_fact) (take_more xs i x c.loop-owner-test.true ∙ ap (λ (y : OwnerBounds). take i xs ++ y ∷ []) (sym c.owner-item.is)) ∙ map-append owner_fact (take i xs) (x ∷ []) in
    ap (map spelled_owner) c.in_ok-extend_from_slice.ensures.items ∙ map-append spelled_owner c.loop-owner.spelled.items _
    ∙ ap (λ (os : List OwnerFact). os ++ owner_fact x ∷ []) c.loop-owner.invariant ∙ sym more
