use Rattle.std.proofs.Common.{◌≡◌, ◌+◌, ◌<◌, ◌≤◌, length, None, refl, arith}
use Rattle.std.proofs.lemmas.Nat.{mod_below}
use Rattle.chains.specs.Chained.{moved}
use Rattle.shelf.specs.Racked.{place_in}
use Rattle.shelf.proofs.Keyed.{filled_found, filled_in, numbers}
use Rattle.shelf.proofs.Racking.{rack_filled}
use Rattle.shelf.proofs.Slotting.{few_entries}
use Rattle.shelf.proofs.Timing.{moves_out}
use Rattle.shelf.proofs.rack.Rack.fill.Goals as goal

pub overflow_add-self : goal.overflow_add-self
overflow_add-self g c =
    let racked = c.requires.spare.racked in
    let used = racked.used_is in
    let le = few_entries c.args.self.now.slots.items in
    let cells = racked.cells in
    let few = racked.named.few in
    omega (arith, used, le, cells, few)

pub returns-clause-racked : goal.returns-clause-racked
returns-clause-racked g c =
    let old = c.args.self.now in
    let x = c.args.slot in
    let spare = c.requires.spare in
    let place = place_in old.lists old.slots.items in
    rw c.fill.ensures.items (rack_filled old c.push.new.self (old.used + 1) x (record { key = c.args.number; kept = c.args.kept }) spare c.requires.new refl c.push.ensures.shape (c.push.ensures.put (moved place x None) spare.racked.named (moves_out place x)))

pub returns-clause-put : goal.returns-clause-put
returns-clause-put g c = (let spare = c.requires.spare in rw c.fill.ensures.items (filled_in numbers c.args.self.now.slots.items c.args.slot (record { key = c.args.number; kept = c.args.kept }) spare.empty spare.inside))

pub returns-clause-found : goal.returns-clause-found
returns-clause-found g c = λ n.
    let spare = c.requires.spare in
    rw c.fill.ensures.items (filled_found numbers c.args.self.now.slots.items c.args.slot (record { key = c.args.number; kept = c.args.kept }) n spare.empty spare.inside c.requires.new)
