use Rattle.std.proofs.Common.{◌≡◌, ◌<◌, ◌%◌, ◌∙◌, ap, length, subst, sym, Some, None, arith}
use Rattle.std.specs.Prelude.{nat_eq}
use Rattle.std.proofs.lemmas.Bool.Decides.{nat_tests}
use Rattle.chains.specs.Chained.{first_of, to_go}
use Rattle.shelf.specs.Racked.{number_place}
use Rattle.shelf.proofs.Keyed.{numbers}
use Rattle.shelf.proofs.Naming.{IsPassed, way_begins, way_cell, way_held, way_nearer, way_goes_on, way_ends}
use Rattle.shelf.proofs.Racking.{unlisted}
use Rattle.shelf.proofs.rack.Rack.find.Goals as goal

pub loop-at-init : goal.loop-at-init
loop-at-init g c =
    let old = c.args.self.now in
    let n = c.args.number in
    let named = c.requires.named in
    let list = c.list_of.ensures in
    let heads = c.requires.heads in
    let value = list.value in
    let low : n % old.lists < old.names.heads = omega (arith, list.list, value, heads) in
    way_begins old.names old.slots.items (λ x o. number_place old.lists (length old.slots.items) x o) nat_eq (n % old.lists) n c.first-at.result named low
    (c.first-at.ensures _ named ∙ ap (λ k. first_of (named.lists k)) list.value)

pub behind-at-requires : goal.behind-at-requires
behind-at-requires g c =
    let old = c.args.self.now in
    let n = c.args.number in
    let passed = subst (IsPassed old.names old.slots.items (λ x o. number_place old.lists (length old.slots.items) x o) nat_eq (n % old.lists) n) c.in-Some.is c.loop-at.invariant in
    way_cell old.names old.slots.items (λ x o. number_place old.lists (length old.slots.items) x o) nat_eq (n % old.lists) n c.in-Some.slot passed

pub is_numbered-requires : goal.is_numbered-requires
is_numbered-requires g c =
    let old = c.args.self.now in
    let n = c.args.number in
    let some = c.requires.some in
    let passed = subst (IsPassed old.names old.slots.items (λ x o. number_place old.lists (length old.slots.items) x o) nat_eq (n % old.lists) n) c.in-Some.is c.loop-at.invariant in
    way_held old.names old.slots.items (λ x o. number_place old.lists (length old.slots.items) x o) nat_eq (n % old.lists) n c.in-Some.slot passed (unlisted old.slots.items old.lists n c.in-Some.slot (omega (arith, some)))

pub loop-at-preserved : goal.loop-at-preserved
loop-at-preserved g c =
    let old = c.args.self.now in
    let n = c.args.number in
    let passed = subst (IsPassed old.names old.slots.items (λ x o. number_place old.lists (length old.slots.items) x o) nat_eq (n % old.lists) n) c.in-Some.is c.loop-at.invariant in
    way_goes_on old.names old.slots.items (λ x o. number_place old.lists (length old.slots.items) x o) nat_eq (n % old.lists) n c.in-Some.slot passed c.behind-at.result (c.behind-at.ensures _ passed.named) (sym c.is_numbered.ensures ∙ c.if-is_numbered.false)

pub loop-at-smaller : goal.loop-at-smaller
loop-at-smaller g c =
    let old = c.args.self.now in
    let n = c.args.number in
    let passed = subst (IsPassed old.names old.slots.items (λ x o. number_place old.lists (length old.slots.items) x o) nat_eq (n % old.lists) n) c.in-Some.is c.loop-at.invariant in
    subst (λ o. to_go old.names c.behind-at.result < to_go old.names o) (sym c.in-Some.is)
    (way_nearer old.names old.slots.items (λ x o. number_place old.lists (length old.slots.items) x o) nat_eq (n % old.lists) n c.in-Some.slot passed c.behind-at.result (c.behind-at.ensures _ passed.named))

pub returns-clause-none : goal.returns-clause-none
returns-clause-none g c =
    let old = c.args.self.now in
    let n = c.args.number in
    way_ends numbers old.names old.slots.items (λ x o. number_place old.lists (length old.slots.items) x o) (n % old.lists) n
    (subst (IsPassed old.names old.slots.items (λ x o. number_place old.lists (length old.slots.items) x o) nat_eq (n % old.lists) n) c.in_default.is c.loop-at.invariant)
    (λ x s same. (let is : s.key ≡ n = grind (arith, nat_tests, same) in ap (λ k. Some (k % old.lists)) is))
