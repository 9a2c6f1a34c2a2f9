use Rattle.std.proofs.Common.{◌≡◌, ◌^◌, ◌<◌, arith}
use Rattle.range.proofs.Names.{URange, IsWithin, InRange}
use Rattle.range.proofs.Places.{member}
use Rattle.range.proofs.unsigned.URange.refined_by_halves.Goals as goal

-- what lies within what a width sees of a range lies within that range, where it sees all
seen_within : (a s l : URange) → (a.greatest < 2 ^ 32 → s.least ≡ a.least) → (a.greatest < 2 ^ 32 → s.greatest ≡ a.greatest) → IsWithin InRange l s → a.greatest < 2 ^ 32 → IsWithin InRange l a
seen_within a s l from to within small x h =
    let low = from small in
    let high = to small in
    let m = within x h in
    member a x m.word (omega (arith, m.above)) (omega (arith, m.below))

pub returns-clause-within : goal.returns-clause-within
returns-clause-within c = (
  c.with_seen.ensures.within (seen_within c.args.a c.seen.result c.in_ok-left.left c.seen.ensures.from c.seen.ensures.to c.in_ok-left.ensures.within.0),
  c.with_seen-2.ensures.within (seen_within c.args.b c.seen-2.result c.in_ok-left.right c.seen-2.ensures.from c.seen-2.ensures.to c.in_ok-left.ensures.within.1),
)
