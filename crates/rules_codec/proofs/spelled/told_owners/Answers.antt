use Rattle.std.proofs.Common.{◌≡◌, ◌∷◌, ◌++◌, ◌+◌, [], List, map, take, ap, sym, ◌∙◌}
use Rattle.std.proofs.lemmas.List.{map-append, take_more}
use Rattle.change_codec.specs.Rules.{OwnerFact}
use Rattle.rules_codec.specs.Facts.{owner_fact}
use Rattle.rules_codec.specs.FactsParts.{spelled_owner}
use Rattle.rules_codec.specs.declared.spelled.SpelledOwner.{SpelledOwner}
use Rattle.rules_codec.proofs.spelled.told_owners.Goals as goal

pub loop-owner-preserved : goal.loop-owner-preserved
loop-owner-preserved c =
    let xs = c.args.spelled.now in
    let i = c.loop-owner.owner-index in
    let x = c.owner-item.result in
    let more : map spelled_owner (take (i + 1) xs) ≡ map spelled_owner (take i xs) ++ spelled_owner x ∷ [] =
    ap (map spelled_owner) (take_more xs i x c.loop-owner-test.true ∙ ap (λ (y : SpelledOwner). take i xs ++ y ∷ []) (sym c.owner-item.is)) ∙ map-append spelled_owner (take i xs) (x ∷ []) in
    ap (map owner_fact) c.in_ok-extend_from_slice.ensures.items ∙ map-append owner_fact c.loop-owner.owners.items _
    ∙ ap (λ (os : List OwnerFact). os ++ spelled_owner x ∷ []) c.loop-owner.invariant ∙ sym more
