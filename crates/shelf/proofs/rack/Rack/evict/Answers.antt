use Rattle.std.proofs.Common.{◌≡◌, ◌%◌, ◌∙◌, Some, None, ap, length, sym, arith}
use Rattle.std.specs.Prelude.{nat_eq}
use Rattle.std.specs.Map.{remove_entry}
use Rattle.std.proofs.lemmas.Bool.Decides.{nat_tests}
use Rattle.chains.specs.Chained.{moved}
use Rattle.shelf.specs.Racked.{number_place, place_in, rack_entries}
use Rattle.shelf.specs.Shelved.{slot_at}
use Rattle.shelf.proofs.Keyed.{fewer_out, keyed_slot, numbers, slot_found, slot_within, taken_out}
use Rattle.shelf.proofs.Naming.{keyed_held}
use Rattle.shelf.proofs.Racking.{rack_taken}
use Rattle.shelf.proofs.Timing.{moves_out}
use Rattle.shelf.proofs.rack.Rack.evict.Goals as goal

pub remove-requires : goal.remove-requires
remove-requires g c =
    let old = c.args.self.now in
    let n = c.args.number in
    let x = c.args.slot in
    let there = keyed_slot nat_eq n (slot_at old.slots.items x) c.requires.numbered in
    let is : there.0.key ≡ n = (let same = there.2 in grind (arith, nat_tests, same)) in
    let heads = c.requires.racked.heads in
    let list = c.list_of-list.ensures in
    record {
      place = place_in old.lists old.slots.items;
      chained = c.requires.racked.named;
      there = ap (number_place old.lists (length old.slots.items) x) there.1 ∙ ap (λ k. Some (k % old.lists)) is ∙ ap (λ k. Some k) (sym list.value);
      is_list = (let low = list.list in omega (arith, low, heads));
    }

pub overflow_sub-self : goal.overflow_sub-self
overflow_sub-self g c =
    let old = c.args.self.now in
    let there = keyed_slot nat_eq c.args.number (slot_at old.slots.items c.args.slot) c.requires.numbered in
    let less = fewer_out numbers old.slots.items c.args.slot there.0 there.1 in
    let used = c.requires.racked.used_is in
    omega (arith, less, used)

pub push-requires-clause-cell : goal.push-requires-clause-cell
push-requires-clause-cell g c =
    let old = c.args.self.now in
    let there = keyed_slot nat_eq c.args.number (slot_at old.slots.items c.args.slot) c.requires.numbered in
    let inside = slot_within old.slots.items c.args.slot there.0 there.1 in
    let cells = c.requires.racked.cells in
    let shape = c.remove.ensures.shape in
    omega (arith, inside, cells, shape.heads, shape.cells)

pub returns-clause-racked : goal.returns-clause-racked
returns-clause-racked g c =
    let old = c.args.self.now in
    let items = old.slots.items in
    let n = c.args.number in
    let x = c.args.slot in
    let racked = c.requires.racked in
    let there = keyed_slot nat_eq n (slot_at items x) c.requires.numbered in
    let is : there.0.key ≡ n = (let same = there.2 in grind (arith, nat_tests, same)) in
    let place = place_in old.lists items in
    let listed = ap (number_place old.lists (length items) x) there.1 ∙ ap (λ k. Some (k % old.lists)) is ∙ ap (λ k. Some k) (sym c.list_of-list.ensures.value) in
    let less = fewer_out numbers items x there.0 there.1 in
    let used = racked.used_is in
    rw c.clear.ensures.items
    (rack_taken old c.push.new.self _ x there.0 racked there.1 (slot_within items x there.0 there.1) (omega (arith, less, used)) (c.push.ensures.shape.heads ∙ c.remove.ensures.shape.heads)
    (c.push.ensures.shape.cells ∙ c.remove.ensures.shape.cells) (c.push.ensures.put (moved place x None) (c.remove.ensures.out place racked.named listed) (moves_out place x)))

pub returns-clause-slots : goal.returns-clause-slots
returns-clause-slots g c = c.clear.ensures.items

pub clear-requires : goal.clear-requires
clear-requires g c = keyed_held nat_eq c.args.number (slot_at c.args.self.now.slots.items c.args.slot) c.requires.numbered

pub returns-clause-gone : goal.returns-clause-gone
returns-clause-gone g c =
    let old = c.args.self.now in
    let items = old.slots.items in
    let n = c.args.number in
    let x = c.args.slot in
    let there = keyed_slot nat_eq n (slot_at items x) c.requires.numbered in
    let s = there.0 in
    let is : s.key ≡ n = (let same = there.2 in grind (arith, nat_tests, same)) in
    let own = c.clear.ensures.value s there.1 in
    record {
      found = slot_found numbers items x s n c.requires.racked.once there.1 there.2 ∙ ap (λ v. Some v) (sym own);
      taken = rw c.clear.ensures.items (taken_out numbers items x s c.requires.racked.once there.1 ∙ ap (λ k. remove_entry (nat_eq k) (rack_entries old)) is);
    }
