use Rattle.std.proofs.Common.{◌≡◌, ◌<◌, ◌∙◌, ℕ, Some, length, ap, refl, subst, arith}
use Rattle.chains.specs.Chained.{Chained, moved}
use Rattle.shelf.proofs.Keyed.{digests, filled_in, filled_found}
use Rattle.shelf.specs.Shelved.{is_any, is_of, list_for, name_place, slot_at}
use Rattle.shelf.proofs.Putting.{filled}
use Rattle.shelf.proofs.Slotting.{few_entries}
use Rattle.shelf.proofs.Tallying.{count_few}
use Rattle.shelf.proofs.shelf.Shelf.fill.Goals as goal

pub enter_if-requires-clause-few : goal.enter_if-requires-clause-few
enter_if-requires-clause-few g c =
    let s = c.requires.loose.shelved in
    let all = s.tallied.all in
    let le = count_few is_any c.requires.loose.timer c.args.self.now.slots.items in
    let cells = s.time_cells in
    let few = s.timed.few in
    omega (arith, all, le, cells, few)

pub enter_if-requires-clause-fewer : goal.enter_if-requires-clause-fewer
enter_if-requires-clause-fewer g c =
    let s = c.requires.loose.shelved in
    let each = s.tallied.each c.whose.result in
    let le = count_few (is_of g.R.Lasts.whose c.whose.result) c.requires.loose.timer c.args.self.now.slots.items in
    let cells = s.time_cells in
    let few = s.timed.few in
    omega (arith, each, le, cells, few)

pub push-requires-clause-cell : goal.push-requires-clause-cell
push-requires-clause-cell g c =
    let s = c.requires.loose.shelved in
    let inside = (s.loosed c.args.slot refl).1.0 in
    let cells = s.name_cells in
    omega (arith, inside, cells)

pub push-requires-2-clause-cell : goal.push-requires-2-clause-cell
push-requires-2-clause-cell g c =
    let s = c.requires.loose.shelved in
    let inside = (s.loosed c.args.slot refl).1.0 in
    let cells = s.time_cells in
    omega (arith, inside, cells)

pub fill-requires : goal.fill-requires
fill-requires g c = (c.requires.loose.shelved.loosed c.args.slot refl).1.0

pub overflow_add-self : goal.overflow_add-self
overflow_add-self g c =
    let s = c.requires.loose.shelved in
    let used = s.used_is in
    let le = few_entries c.args.self.now.slots.items in
    let cells = s.time_cells in
    let few = s.timed.few in
    omega (arith, used, le, cells, few)

pub returns-clause-shelved : goal.returns-clause-shelved
returns-clause-shelved g c =
    let old = c.args.self.now in
    let x = c.args.slot in
    let d = c.args.digest.now in
    let stands = c.requires.loose in
    let s = stands.shelved in
    let heads = old.names.heads in
    let own = s.loosed x refl in
    let put = subst (λ n. Chained c.push.new.self (moved (λ y. name_place heads (slot_at old.slots.items y)) x (Some n))) c.bucket-list.ensures.value
    (c.push.ensures.put (λ y. name_place heads (slot_at old.slots.items y)) s.named (ap (name_place heads) own.1.1)) in
    let put' = subst (λ n. Chained c.push-2.new.self (moved stands.timer x (Some n))) (c.list_for.ensures ∙ ap (list_for old.second) c.until-until.ensures) (c.push-2.ensures.put stands.timer s.timed own.0) in
    filled g.R.Lasts.until g.R.Lasts.whose old _ x (record { key = d; kept = c.args.kept }) stands c.requires.new c.fill.ensures.items c.push.ensures.shape put refl refl c.push-2.ensures.shape put'
    (rw (c.until-until.ensures, c.whose.ensures) at c.enter_if.ensures.enters)

pub returns-clause-put : goal.returns-clause-put
returns-clause-put g c =
    let own = (c.requires.loose.shelved.loosed c.args.slot refl).1 in
    rw c.fill.ensures.items (filled_in digests c.args.self.now.slots.items c.args.slot (record { key = c.args.digest.now; kept = c.args.kept }) own.1 own.0)

pub returns-clause-found : goal.returns-clause-found
returns-clause-found g c = λ d.
    let own = (c.requires.loose.shelved.loosed c.args.slot refl).1 in
    rw c.fill.ensures.items (filled_found digests c.args.self.now.slots.items c.args.slot (record { key = c.args.digest.now; kept = c.args.kept }) d own.1 own.0 c.requires.new)
