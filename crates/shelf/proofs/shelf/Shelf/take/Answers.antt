use Rattle.std.proofs.Common.{◌≡◌, ◌∙◌, ap, refl, sym, subst}
use Rattle.std.proofs.lemmas.Slice.Eq.{bytes_eq-Decides}
use Rattle.shelf.specs.Shelved.{HasTaken, entries_in, entries_of, slot_at}
use Rattle.shelf.proofs.Taking.{named_held, named_slot}
use Rattle.shelf.proofs.shelf.Shelf.take.Goals as goal

pub counts-counts-requires-clause-held : goal.counts-counts-requires-clause-held
counts-counts-requires-clause-held g c = named_held c.args.self.now c.args.digest.now c.in_ok-slot.slot c.in_ok-slot.ensures.some

pub evict-requires-clause-held : goal.evict-requires-clause-held
evict-requires-clause-held g c =
    let held = named_held c.args.self.now c.args.digest.now c.in_ok-slot.slot c.in_ok-slot.ensures.some in
    record { slot = held.slot; at = ap (λ s. slot_at s.items c.in_ok-slot.slot) c.counts-counts.ensures.slots ∙ held.at }

pub returns-clause-some : goal.returns-clause-some
returns-clause-some g c =
    let old = c.args.self.now in
    let d = c.args.digest.now in
    let x = c.in_ok-slot.slot in
    let there = named_slot d (slot_at old.slots.items x) c.in_ok-slot.ensures.some in
    let same = c.counts-counts.ensures.slots in
    let gone = c.evict.ensures.gone there.0 (ap (λ s. slot_at s.items x) same ∙ there.1) in
    let named : d ≡ there.0.key = (bytes_eq-Decides d there.0.key).0 there.2 in
    let taken = subst (λ es. HasTaken es (entries_of c.evict.new.self) there.0.key there.0.kept) (ap (λ s. entries_in s.items) same) gone.1 in
    rw gone.0 (subst (λ e. HasTaken (entries_of old) (entries_of c.evict.new.self) e there.0.kept) (sym named) taken)

pub returns-clause-none : goal.returns-clause-none
returns-clause-none g c =
    let x = c.in_ok-slot.slot in
    let there = named_slot c.args.digest.now (slot_at c.args.self.now.slots.items x) c.in_ok-slot.ensures.some in
    rw (c.evict.ensures.gone there.0 (ap (λ s. slot_at s.items x) c.counts-counts.ensures.slots ∙ there.1)).0 tt
