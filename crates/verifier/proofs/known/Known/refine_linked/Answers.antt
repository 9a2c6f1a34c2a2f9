use Rattle.std.proofs.Common.{false, true, ◌∙◌, sym}
use Rattle.verifier.specs.Learnt.{Unspread}
use Rattle.verifier.proofs.States.{narrowed_then, not_narrowed, spread_one}
use Rattle.verifier.proofs.known.Known.refine_linked.Goals as goal

pub returns-then-not-refine_at-clause-narrowed : goal.returns-then-not-refine_at-clause-narrowed
returns-then-not-refine_at-clause-narrowed c =
    narrowed_then c.args.self.now c.loop-i.self c.refine_at.new.self false c.loop-i.invariant.0 (rw c.if-not-refine_at.true at c.refine_at.ensures.narrowed)

pub loop-i-preserved : goal.loop-i-preserved
loop-i-preserved c = (
  narrowed_then c.args.self.now c.loop-i.self c.refine_at.new.self true c.loop-i.invariant.0 (rw c.if-not-refine_at.false at c.refine_at.ensures.narrowed),
  spread_one c.args.test c.args.turn c.args.self.now c.loop-i.self c.refine_at.new.self c.loop-i.i c.loop-i.invariant.1 (c.refine_at.ensures.spread c.if-not-refine_at.false),
)

pub loop-i-init : goal.loop-i-init
loop-i-init c = (not_narrowed c.args.self.now, Unspread)
