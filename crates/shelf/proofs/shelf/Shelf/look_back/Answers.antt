use Rattle.std.proofs.Common.{◌≡◌, ◌<◌, ◌≤◌, ◌+◌, ◌∙◌, length, Some, None, ap, refl, subst, sym, arith}
use Rattle.shelf.specs.Shelved.{HasTaken, entries_in, entries_of, slot_at}
use Rattle.shelf.proofs.shelf.Shelf.look_back.Goals as goal

pub returns-in_default-clause-looked : goal.returns-in_default-clause-looked
returns-in_default-clause-looked g c = (refl, c.in_default.ensures.none)

pub counts-counts-requires-clause-held : goal.counts-counts-requires-clause-held
counts-counts-requires-clause-held g c = (let there = c.in-Some.ensures.some in record { slot = there.slot; at = there.at })

pub evict-requires-clause-held : goal.evict-requires-clause-held
evict-requires-clause-held g c = (let there = c.in-Some.ensures.some in record { slot = there.slot; at = ap (λ s. slot_at s.items c.in-Some.slot) c.counts-counts.ensures.slots ∙ there.at })

pub returns-in_default-evict-clause-looked : goal.returns-in_default-evict-clause-looked
returns-in_default-evict-clause-looked g c =
    let there = c.in-Some.ensures.some in
    let gone = c.evict.ensures.gone there.slot (ap (λ s. slot_at s.items c.in-Some.slot) c.counts-counts.ensures.slots ∙ there.at) in
    absurd (let both : None ≡ Some there.slot.kept = sym c.in_default-evict.is ∙ gone.0 in cc)

pub returns-clause-looked : goal.returns-clause-looked
returns-clause-looked g c =
    let there = c.in-Some.ensures.some in
    let same = c.counts-counts.ensures.slots in
    let gone = c.evict.ensures.gone there.slot (ap (λ s. slot_at s.items c.in-Some.slot) same ∙ there.at) in
    let r = c.in-Some-evict.gone in
    let is : there.slot.kept ≡ r = (let both : Some there.slot.kept ≡ Some r = sym gone.0 ∙ c.in-Some-evict.is in grind (arith, both)) in
    let taken = subst (λ es. HasTaken es (entries_of c.evict.new.self) there.slot.key there.slot.kept) (ap (λ s. entries_in s.items) same) gone.1 in
    record {
      digest = there.slot.key;
      taken = subst (HasTaken (entries_of c.args.self.now) (entries_of c.evict.new.self) there.slot.key) is taken;
      expired = (let before = there.expired in let until = ap g.R.Lasts.until is in omega (arith, before, until));
    }

pub returns-clause-goes : goal.returns-clause-goes
returns-clause-goes g c = λ is.
    let counts = c.counts-counts.ensures in
    let evict = c.evict.ensures in
    let less = counts.less in
    let fewer = evict.fewer in
    let same = ap (λ s. length (entries_in s.items)) counts.slots in
    rw (evict.long ∙ ap (λ s. length s.items) counts.slots, evict.second ∙ counts.second, evict.wheel) (omega (arith, less, fewer, same))
