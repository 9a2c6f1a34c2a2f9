use Rattle.std.proofs.Common.{inl, inr, arith}
use Rattle.event_loop.proofs.tools.Tools.is_time.Goals as goal

pub returns-then-waited-most-clause-ends : goal.returns-then-waited-most-clause-ends
returns-then-waited-most-clause-ends g c = λ yes journey reached. inr (omega (arith, c.saturating_sub-waited.ensures, c.if-waited-most.true))

pub returns-clause-ends : goal.returns-clause-ends
returns-clause-ends g c = λ yes journey reached. inl (c.are_between.ensures.between yes journey reached)

pub returns-clause-serves_on : goal.returns-clause-serves_on
returns-clause-serves_on g c = λ no journey reached time. elim time [
  | inl all ↦ c.are_between.ensures.apart no journey reached all
  | inr late ↦ omega (arith, late, c.saturating_sub-waited.ensures, c.if-waited-most.false)
]
