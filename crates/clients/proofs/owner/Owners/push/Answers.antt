use Rattle.std.proofs.Common.{◌≡◌, ◌∙◌, ◌≤◌, ◌++◌, ◌∷◌, [], ℕ, List, eqb, cond, length, length-append, Some, None, Option, ap, sym, subst, arith}
use Rattle.std.proofs.lemmas.Grind.{common_steps}
use Rattle.clients.proofs.Names.{bytes_eq}
use Rattle.clients.proofs.Placed.{ArePlacesByKey-push, ArePlacesByNumber-push}
use Rattle.clients.specs.Limits.{owner_limit}
use Rattle.clients.specs.OwnerRecord.{OwnerRecord, Listed}
use Rattle.clients.specs.Owners.{owner_keyed, owner_listed}
use Rattle.clients.specs.OwnersParts.{ArePlacesByKey, ArePlacesByNumber, PutsKey, PutsNumber}
use Rattle.clients.proofs.owner.Owners.push.Goals as goal

pub invariant_of-self-in_err-reserve-3 : goal.invariant_of-self-in_err-reserve-3
invariant_of-self-in_err-reserve-3 c =
    let keyed = c.reserve-2.ensures.entries.2 in
    let numbered = c.reserve-3.ensures.entries.2 in
    subst (λ (owners : List OwnerRecord).
    (length owners ≤ owner_limit) × ArePlacesByKey c.reserve-2.new.self.entries owners × ArePlacesByNumber c.reserve-3.new.self.entries owners)
    (sym c.reserve.ensures.items)
    (c.self.invariant.0, (λ d. keyed d ∙ c.self.invariant.1 d), (λ n. numbered n ∙ c.self.invariant.2 n))

pub invariant_of-self-2 : goal.invariant_of-self-2
invariant_of-self-2 c =
    let owners = c.self.inside.list.items in
    let owner = c.args.owner in
    let items : c.push.new.self.items ≡ owners ++ owner ∷ [] = grind (arith, common_steps) in
    let count : c.len-place.result ≡ length owners = grind (arith, common_steps) in
    let more = length-append owners (owner ∷ []) in
    let room = c.requires.room in
    let key : owner_keyed owner.key owners ≡ None = ap (λ (l : Listed). owner_keyed owner.key l.owners) c.self.view_is ∙ c.requires.key in
    let number : owner_listed owner.number owners ≡ None = ap (λ (l : Listed). owner_listed owner.number l.owners) c.self.view_is ∙ c.requires.number in
    let own_key : c.owner.inside.key ≡ owner.key = ap (λ (o : OwnerRecord). o.key) c.owner.view_is in
    let own_number : c.get.result ≡ owner.number = c.get.ensures.value ∙ ap (λ (o : OwnerRecord). o.number) c.owner.view_is in
    let keyed = (rw c.unwrap.ensures at c.insert-keyed.ensures.updates).0 in
    let numbered = (rw c.unwrap-2.ensures at c.insert-numbered.ensures.updates).0 in
    let here = subst (λ (n : ℕ). PutsKey owner.key n c.reserve-2.new.self.entries c.insert-keyed.new.self.entries) count
    (subst (λ (k : List ℕ). PutsKey k c.len-place.result c.reserve-2.new.self.entries c.insert-keyed.new.self.entries) own_key keyed) in
    let there = subst (λ (m : ℕ). PutsNumber owner.number m c.reserve-3.new.self.entries c.insert-numbered.new.self.entries) count
    (subst (λ (k : ℕ). PutsNumber k c.len-place.result c.reserve-3.new.self.entries c.insert-numbered.new.self.entries) own_number numbered) in
    subst (λ (os : List OwnerRecord). (length os ≤ owner_limit) × ArePlacesByKey c.insert-keyed.new.self.entries os × ArePlacesByNumber c.insert-numbered.new.self.entries os) (sym items) (
      grind (arith, common_steps, more, room),
      ArePlacesByKey-push c.self.inside.by_key.entries c.insert-keyed.new.self.entries owners owner c.self.invariant.1 key
          (λ d. here d ∙ ap (λ (f : Option ℕ). cond (bytes_eq owner.key d) (Some (length owners)) f) (c.reserve-2.ensures.entries.2 d)),
      ArePlacesByNumber-push c.self.inside.by_number.entries c.insert-numbered.new.self.entries owners owner c.self.invariant.2 number
          (λ n. there n ∙ ap (λ (f : Option ℕ). cond (eqb owner.number n) (Some (length owners)) f) (c.reserve-3.ensures.entries.2 n)),
    )
