use Rattle.std.proofs.Common.{rules, ◌≡◌, ◌<◌, ℕ, Some, arith, length, slice_get, subst, sym, ◌∙◌, ap}
use Rattle.event_loop.proofs.Names.{IsBetween, IsOccupied, Place, connection_at, below_more, same_Some, slice_get_within}
use Rattle.event_loop.proofs.tools.Tools.are_between.Goals as goal

pub loop-k-init : goal.loop-k-init
loop-k-init g c = λ journey reached j less. absurd (omega (arith, less))

pub loop-k-preserved-then-not-is_taken : goal.loop-k-preserved-then-not-is_taken
loop-k-preserved-then-not-is_taken g c = λ journey reached.
    below_more (λ j. (place : Place) → slice_get c.args.service.now.places j ≡ Some place → IsOccupied place.stage → IsBetween place (connection_at journey.world.connections j)) c.loop-k.k
    (c.loop-k.invariant journey reached)
    (λ place here taken.
    let same = same_Some place c.place_at-place.result (sym here ∙ c.place_at-place.ensures) in
    absurd (subst IsOccupied (ap (λ (q : Place). q.stage) same ∙ c.is_taken.ensures.free c.if-not-is_taken.true) taken))

pub loop-k-preserved : goal.loop-k-preserved
loop-k-preserved g c = λ journey reached.
    below_more (λ j. (place : Place) → slice_get c.args.service.now.places j ≡ Some place → IsOccupied place.stage → IsBetween place (connection_at journey.world.connections j)) c.loop-k.k
    (c.loop-k.invariant journey reached)
    (λ place here taken.
    let same = same_Some c.place_at-place.result place (sym c.place_at-place.ensures ∙ here) in
    subst (λ (q : Place). IsBetween q (connection_at journey.world.connections c.loop-k.k)) same (c.is_between.ensures.between c.if-not-is_between.false journey reached))

pub returns-then-not-is_between-clause-apart : goal.returns-then-not-is_between-clause-apart
returns-then-not-is_between-clause-apart g c = λ no journey reached all.
    c.is_between.ensures.apart c.if-not-is_between.true journey reached (all c.loop-k.k c.place_at-place.result c.place_at-place.ensures (c.is_taken.ensures.taken c.if-not-is_taken.false))

pub returns-clause-between : goal.returns-clause-between
returns-clause-between g c = λ yes journey reached j place here taken.
    let size : length c.args.service.now.places ≡ 64 = search rules in
    let within = slice_get_within c.args.service.now.places j place here in
    c.loop-k.invariant journey reached j (omega (arith, size, within, c.loop-k-test.false)) place here taken
