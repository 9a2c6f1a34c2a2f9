use Rattle.std.proofs.Common.{◌≡◌, ◌<◌, ◌∙◌, Some, None, ap, length, refl, set, sym}
use Rattle.std.specs.Map.{set_value}
use Rattle.std.specs.Str.{bytes_eq}
use Rattle.std.proofs.lemmas.List.{length-set}
use Rattle.std.proofs.lemmas.Slice.Eq.{bytes_eq-Decides}
use Rattle.shelf.specs.Shelved.{entries_in, slot_at}
use Rattle.shelf.proofs.Keyed.{digests, slot_found, put_over}
use Rattle.shelf.proofs.Naming.{keyed_held}
use Rattle.shelf.proofs.Putting.{used_there}
use Rattle.shelf.proofs.Slotting.{set_over}
use Rattle.shelf.proofs.Taking.{named_slot}
use Rattle.shelf.proofs.Timing.{slot_inside}
use Rattle.shelf.proofs.shelf.Shelf.spend.Goals as goal

pub clear-kept-requires : goal.clear-kept-requires
clear-kept-requires g c = keyed_held bytes_eq c.args.digest.now (slot_at c.args.self.now.slots.items c.in-Some.slot) c.in-Some.ensures.some

pub fill-requires : goal.fill-requires
fill-requires g c =
    let items = c.args.self.now.slots.items in
    let x = c.in-Some.slot in
    let there = named_slot c.args.digest.now (slot_at items x) c.in-Some.ensures.some in
    rw (c.clear-kept.ensures.items, length-set items x None) (slot_inside items x there.0 there.1)

pub returns-clause-shelved : goal.returns-clause-shelved
returns-clause-shelved g c =
    let items = c.args.self.now.slots.items in
    let x = c.in-Some.slot in
    let k = c.spend.new.self in
    let there = named_slot c.args.digest.now (slot_at items x) c.in-Some.ensures.some in
    let s = there.0 in
    let own = c.clear-kept.ensures.value s there.1 in
    let its : c.args.digest.now ≡ s.key = (bytes_eq-Decides c.args.digest.now s.key).0 there.2 in
    used_there g.R.Lasts.until g.R.Lasts.whose c.args.self.now _ x s k c.requires there.1 (c.spend.ensures.until ∙ ap g.R.Lasts.until own) (c.spend.ensures.whose ∙ ap g.R.Lasts.whose own)
    (c.fill.ensures.items ∙ ap (λ is. set is x (Some (record { key = c.args.digest.now; kept = k }))) c.clear-kept.ensures.items ∙ set_over items x None (Some (record { key = c.args.digest.now; kept = k }))
    ∙ ap (λ d. set items x (Some (record { key = d; kept = k }))) its) refl refl refl refl refl

pub returns-clause-spent : goal.returns-clause-spent
returns-clause-spent g c =
    let items = c.args.self.now.slots.items in
    let x = c.in-Some.slot in
    let d = c.args.digest.now in
    let k = c.spend.new.self in
    let there = named_slot d (slot_at items x) c.in-Some.ensures.some in
    let s = there.0 in
    let own = c.clear-kept.ensures.value s there.1 in
    let its : d ≡ s.key = (bytes_eq-Decides d s.key).0 there.2 in
    let spent = c.spend.ensures.spent ∙ ap g.R.Lasts.spent own in
    let at = slot_found digests items x s d c.requires.shelved.once there.1 there.2 in
    rw at (ap entries_in (c.fill.ensures.items ∙ ap (λ is. set is x (Some (record { key = d; kept = k }))) c.clear-kept.ensures.items ∙ set_over items x None (Some (record { key = d; kept = k })) ∙ ap (λ e. set items x (Some (record { key = e; kept = k }))) its)
    ∙ put_over digests items x s k c.requires.shelved.once there.1 ∙ ap (λ e. set_value (bytes_eq e) (entries_in items) k) (sym its) ∙ ap (λ r. set_value (bytes_eq d) (entries_in items) r) spent)
