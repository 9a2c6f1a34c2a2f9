use Rattle.std.proofs.Common.{◌≡◌, ℕ, ◌+◌, ◌∷◌, ◌++◌, [], List, length, length-append, map, take, ap, sym, ◌∙◌, arith, Option}
use Rattle.std.proofs.lemmas.List.{map_push, take_more}
use Rattle.clients.specs.Bounds.{owner_had, owner_said}
use Rattle.clients.specs.OwnerRecord.{OwnerRecord}
use Rattle.clients.specs.declared.bounds.OwnerBounds.{OwnerBounds}
use Rattle.clients.specs.OwnersLaws.{AreOwners-push}
use Rattle.clients.proofs.owner.owners_within.Goals as goal

-- a further owner of the next bounds
more_said : (owners : List OwnerRecord) (owner : OwnerRecord) (bounds : List OwnerBounds) (i : ℕ) (bound : OwnerBounds) →
    map owner_had owners ≡ map owner_said (take i bounds) → take (i + 1) bounds ≡ take i bounds ++ bound ∷ [] → owner_had owner ≡ owner_said bound →
    map owner_had (owners ++ owner ∷ []) ≡ map owner_said (take (i + 1) bounds)
more_said owners owner bounds i bound so_far next same =
    map_push owner_had owners owner ∙ ap (λ (said : List (ℕ × List ℕ × Option (List ℕ))). said ++ owner_had owner ∷ []) so_far
    ∙ ap (λ (one : ℕ × List ℕ × Option (List ℕ)). map owner_said (take i bounds) ++ one ∷ []) same
    ∙ sym (ap (λ (bs : List OwnerBounds). map owner_said bs) next ∙ map_push owner_said (take i bounds) bound)

pub loop-bound-preserved : goal.loop-bound-preserved
loop-bound-preserved c =
    let owners = c.loop-bound.owners.owners in
    let owner = c.in_ok-owner_within.field-0 in
    let i = c.loop-bound.bound-index in
    let bounds = c.args.bounds.now in
    let bound = c.bound-item.result in
    let before = c.loop-bound.invariant in
    let within = c.in_ok-owner_within.ensures in
    let next : take (i + 1) bounds ≡ take i bounds ++ bound ∷ [] =
    take_more bounds i bound c.loop-bound-test.true ∙ ap (λ b. take i bounds ++ b ∷ []) (sym c.bound-item.is) in
    let count : length (owners ++ owner ∷ []) ≡ i + 1 = omega (arith, length-append owners (owner ∷ []), before.0) in
    rw c.in_ok-push.ensures.ok (
      count,
      before.1,
      more_said owners owner bounds i bound before.2 next within.bounds,
      AreOwners-push owners owner before.3 within.right within.number,
    )
