use Rattle.std.proofs.Common.{take, arith}
use Rattle.std.proofs.lemmas.List.{take_all}
use Rattle.change_codec.specs.Spelling.{dated_facts}
use Rattle.shortening.proofs.Noting.{facts_more}
use Rattle.shortening.proofs.whole.unexpired_of.Goals as goal

pub loop-dated-init : goal.loop-dated-init
loop-dated-init c = c.new-noted.ensures c.args.moment

pub loop-dated-preserved : goal.loop-dated-preserved
loop-dated-preserved c =
    rw (facts_more c.loop-dated.dated-index c.args.changes.now c.dated-item.result c.loop-dated-test.true c.dated-item.is)
    (c.in_ok-note.ensures (dated_facts (take c.loop-dated.dated-index c.args.changes.now)) c.loop-dated.invariant)

pub returns : goal.returns
returns c = let all = take_all c.loop-dated.dated-index c.args.changes.now (omega (arith, c.loop-dated-test.false)) in rw all at c.loop-dated.invariant
