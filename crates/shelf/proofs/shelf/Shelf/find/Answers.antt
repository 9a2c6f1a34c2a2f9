use Rattle.std.proofs.Common.{◌≡◌, ◌<◌, ◌∙◌, ap, subst, sym, Some, None}
use Rattle.std.specs.Str.{bytes_eq}
use Rattle.std.proofs.lemmas.Slice.Eq.{bytes_eq-Decides}
use Rattle.chains.specs.Chained.{first_of, to_go}
use Rattle.shelf.specs.Shelved.{bucket, name_place}
use Rattle.shelf.proofs.Keyed.{digests}
use Rattle.shelf.proofs.Naming.{IsPassedOn, way_begins, way_cell, way_held, way_nearer, way_goes_on, way_ends}
use Rattle.shelf.proofs.shelf.Shelf.find.Goals as goal

pub loop-at-init : goal.loop-at-init
loop-at-init g c =
    let old = c.args.self.now in
    let d = c.args.digest.now in
    let named = c.requires.shelved.named in
    let list = c.bucket.ensures.value in
    way_begins old.names old.slots.items (λ x o. name_place old.names.heads o) bytes_eq (bucket old.names.heads d) d c.first-at.result named (subst (λ n. n < old.names.heads) list c.bucket.ensures.list)
    (c.first-at.ensures _ named ∙ ap (λ n. first_of (named.lists n)) list)

pub behind-at-requires : goal.behind-at-requires
behind-at-requires g c =
    let old = c.args.self.now in
    let d = c.args.digest.now in
    let passed = subst (IsPassedOn old d) c.in-Some.is c.loop-at.invariant in
    way_cell old.names old.slots.items (λ x o. name_place old.names.heads o) bytes_eq (bucket old.names.heads d) d c.in-Some.slot passed

pub is_named-requires : goal.is_named-requires
is_named-requires g c =
    let old = c.args.self.now in
    let d = c.args.digest.now in
    let passed = subst (IsPassedOn old d) c.in-Some.is c.loop-at.invariant in
    way_held old.names old.slots.items (λ x o. name_place old.names.heads o) bytes_eq (bucket old.names.heads d) d c.in-Some.slot passed (λ is. cc)

pub loop-at-preserved : goal.loop-at-preserved
loop-at-preserved g c =
    let old = c.args.self.now in
    let d = c.args.digest.now in
    let passed = subst (IsPassedOn old d) c.in-Some.is c.loop-at.invariant in
    way_goes_on old.names old.slots.items (λ x o. name_place old.names.heads o) bytes_eq (bucket old.names.heads d) d c.in-Some.slot passed c.behind-at.result (c.behind-at.ensures _ passed.named) (sym c.is_named.ensures ∙ c.if-is_named.false)

pub loop-at-smaller : goal.loop-at-smaller
loop-at-smaller g c =
    let old = c.args.self.now in
    let d = c.args.digest.now in
    let passed = subst (IsPassedOn old d) c.in-Some.is c.loop-at.invariant in
    subst (λ o. to_go old.names c.behind-at.result < to_go old.names o) (sym c.in-Some.is)
    (way_nearer old.names old.slots.items (λ x o. name_place old.names.heads o) bytes_eq (bucket old.names.heads d) d c.in-Some.slot passed c.behind-at.result (c.behind-at.ensures _ passed.named))

pub returns-clause-none : goal.returns-clause-none
returns-clause-none g c =
    let old = c.args.self.now in
    let d = c.args.digest.now in
    way_ends digests old.names old.slots.items (λ x o. name_place old.names.heads o) (bucket old.names.heads d) d (subst (IsPassedOn old d) c.in_default.is c.loop-at.invariant)
    (λ x s same. ap (λ e. Some (bucket old.names.heads e)) (sym ((bytes_eq-Decides d s.key).0 same)))
