use Rattle.std.proofs.Common.{◌≡◌, ◌+◌, ◌∷◌, ◌++◌, ◌∙◌, [], List, map, take, ap, sym, subst}
use Rattle.std.proofs.lemmas.List.{map-append, take_more}
use Rattle.change_codec.specs.Rules.{OwnerFact}
use Rattle.clients.specs.declared.bounds.OwnerBounds.{OwnerBounds}
use Rattle.rules_codec.specs.Facts.{owner_fact}
use Rattle.rules_beside.specs.OwnersParts.{AreNumbers}
use Rattle.rules_beside.proofs.Owned.{numbers_more}
use Rattle.rules_beside.proofs.listed.numbers_of.Goals as goal

pub loop-owner-preserved : goal.loop-owner-preserved
loop-owner-preserved c =
    let xs = c.args.owners.now in
    let i = c.loop-owner.owner-index in
    let x = c.owner-item.result in
    let more : map owner_fact (take (i + 1) xs) ≡ map owner_fact (take i xs) ++ owner_fact x ∷ [] =
    ap (map owner_fact) (take_more xs i x c.loop-owner-test.true ∙ ap (λ (y : OwnerBounds). take i xs ++ y ∷ []) (sym c.owner-item.is)) ∙ map-append owner_fact (take i xs) (x ∷ []) in
    subst (λ (os : List OwnerFact). AreNumbers c.note.new.numbers.entries os) (sym more)
    (numbers_more (map owner_fact (take i xs)) x c.loop-owner.numbers.entries c.note.new.numbers.entries c.loop-owner.invariant c.in_ok-note.ensures)
