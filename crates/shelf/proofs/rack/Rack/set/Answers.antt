use Rattle.std.proofs.Common.{◌≡◌, Some, set, subst, arith}
use Rattle.std.specs.Prelude.{nat_eq}
use Rattle.std.specs.Map.{set_value}
use Rattle.std.proofs.lemmas.Bool.Decides.{nat_tests}
use Rattle.shelf.specs.Racked.{Racked, place_in, rack_entries}
use Rattle.shelf.specs.Shelved.{entries_in, slot_at}
use Rattle.shelf.proofs.Keyed.{keyed_slot, numbers, put_over, slot_found, slot_within}
use Rattle.shelf.proofs.Racking.{rack_replaced}
use Rattle.shelf.proofs.rack.Rack.set.Goals as goal

pub returns-clause-racked : goal.returns-clause-racked
returns-clause-racked g c =
    let old = c.args.self.now in
    let items = old.slots.items in
    let n = c.args.number in
    let x = c.in-Some.slot in
    let v = c.args.kept in
    let there = keyed_slot nat_eq n (slot_at items x) c.in-Some.ensures.some in
    let is : there.0.key ≡ n = (let same = there.2 in grind (arith, nat_tests, same)) in
    rw c.fill.ensures.items
    (subst (λ k. Racked (set items x (Some (record { key = k; kept = v }))) old.names old.lists old.used (place_in old.lists (set items x (Some (record { key = k; kept = v }))))) is
    (rack_replaced old x there.0 v c.requires there.1))

pub returns-clause-set : goal.returns-clause-set
returns-clause-set g c =
    let old = c.args.self.now in
    let items = old.slots.items in
    let n = c.args.number in
    let x = c.in-Some.slot in
    let v = c.args.kept in
    let there = keyed_slot nat_eq n (slot_at items x) c.in-Some.ensures.some in
    let is : there.0.key ≡ n = (let same = there.2 in grind (arith, nat_tests, same)) in
    rw (slot_found numbers items x there.0 n c.requires.once there.1 there.2, c.fill.ensures.items)
    (subst (λ k. entries_in (set items x (Some (record { key = k; kept = v }))) ≡ set_value (nat_eq k) (rack_entries old) v) is (put_over numbers items x there.0 v c.requires.once there.1))

pub fill-requires : goal.fill-requires
fill-requires g c =
    let items = c.args.self.now.slots.items in
    let there = keyed_slot nat_eq c.args.number (slot_at items c.in-Some.slot) c.in-Some.ensures.some in
    slot_within items c.in-Some.slot there.0 there.1
