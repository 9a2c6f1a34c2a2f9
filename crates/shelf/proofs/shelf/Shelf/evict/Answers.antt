use Rattle.std.proofs.Common.{◌≡◌, ◌∙◌, Some, None, ap, refl, sym, arith}
use Rattle.std.specs.Str.{bytes_eq}
use Rattle.std.proofs.lemmas.Slice.Eq.{bytes_eq-Decides}
use Rattle.shelf.proofs.Keyed.{digests, slot_found, taken_out, fewer_out}
use Rattle.shelf.specs.Looking.{is_held}
use Rattle.shelf.specs.Shelved.{bucket, facts_of, name_place, slot_at}
use Rattle.shelf.proofs.Given.{facts_held}
use Rattle.shelf.proofs.Putting.{evicted, put_long}
use Rattle.shelf.proofs.Timing.{slot_inside}
use Rattle.shelf.proofs.shelf.Shelf.evict.Goals as goal

pub remove-requires : goal.remove-requires
remove-requires g c =
    let old = c.args.self.now in
    let x = c.args.slot in
    let held = c.requires.held in
    let heads = old.names.heads in
    let facts = facts_held (facts_of g.R.Lasts.until g.R.Lasts.whose) (slot_at old.slots.items x) held.slot c.facts_of.result c.in_ok-facts.facts c.facts_of.ensures held.at c.in_ok-facts.was in
    record {
      place = λ y. name_place heads (slot_at old.slots.items y);
      chained = c.requires.counted.stands.shelved.named;
      there = ap (name_place heads) held.at ∙ ap (λ f. Some (bucket heads f.digest)) (sym facts) ∙ ap (λ n. Some n) (sym c.bucket-list.ensures.value);
      is_list = c.bucket-list.ensures.list;
    }

pub overflow_sub-self : goal.overflow_sub-self
overflow_sub-self g c =
    let held = c.requires.held in
    let less = fewer_out digests c.args.self.now.slots.items c.args.slot held.slot held.at in
    let used = c.requires.counted.stands.shelved.used_is in
    omega (arith, less, used)

pub returns-clause-shelved : goal.returns-clause-shelved
returns-clause-shelved g c =
    let old = c.args.self.now in
    let x = c.args.slot in
    let held = c.requires.held in
    let stands = c.requires.counted.stands in
    let heads = old.names.heads in
    let facts = facts_held (facts_of g.R.Lasts.until g.R.Lasts.whose) (slot_at old.slots.items x) held.slot c.facts_of.result c.in_ok-facts.facts c.facts_of.ensures held.at c.in_ok-facts.was in
    let there = ap (name_place heads) held.at ∙ ap (λ f. Some (bucket heads f.digest)) (sym facts) ∙ ap (λ n. Some n) (sym c.bucket-list.ensures.value) in
    let less = fewer_out digests old.slots.items x held.slot held.at in
    let used = stands.shelved.used_is in
    evicted g.R.Lasts.until g.R.Lasts.whose old _ x held.slot stands held.at c.clear.ensures.items c.remove.ensures.shape (c.remove.ensures.out (λ y. name_place heads (slot_at old.slots.items y)) stands.shelved.named there)
    (omega (arith, less, used)) refl refl c.args.counts c.requires.counted.is (rw facts at c.leave_if.ensures.leaves)

pub clear-requires : goal.clear-requires
clear-requires g c = ap is_held c.requires.held.at

pub returns-clause-gone : goal.returns-clause-gone
returns-clause-gone g c = λ s at.
    let items = c.args.self.now.slots.items in
    let x = c.args.slot in
    let once = c.requires.counted.stands.shelved.once in
    let own = (bytes_eq-Decides s.key s.key).1 refl in
    (ap (λ r. Some r) (c.clear.ensures.value s at), record { found = slot_found digests items x s s.key once at own; taken = rw c.clear.ensures.items (taken_out digests items x s once at) })

pub returns-clause-long : goal.returns-clause-long
returns-clause-long g c =
    let held = c.requires.held in
    let items = c.args.self.now.slots.items in
    rw c.clear.ensures.items (put_long items c.args.slot None (slot_inside items c.args.slot held.slot held.at))

pub returns-clause-fewer : goal.returns-clause-fewer
returns-clause-fewer g c = (let held = c.requires.held in rw c.clear.ensures.items (fewer_out digests c.args.self.now.slots.items c.args.slot held.slot held.at))
