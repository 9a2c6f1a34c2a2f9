use Rattle.std.proofs.Common.{◌%◌, ◌^◌}
use Rattle.range.proofs.Names.{InRange, InHalfRange}
use Rattle.range.proofs.LowHalves.{lies_at, low_same}
use Rattle.range.proofs.Refinements.{met_by}
use Rattle.range.proofs.half.HalfRange.cut_by.Goals as goal

pub returns-clause-kept : goal.returns-clause-kept
returns-clause-kept c = met_by InHalfRange (λ x. InRange c.args.low (x % 2 ^ 32)) c.args.self c.of_places.result c.meet.result
    (λ x h k. rw (← c.of_places.ensures) at (lies_at c.turned.result x h.word (rw (low_same x) at (c.turned.ensures.has _ k)))) c.meet.ensures
