use Rattle.std.proofs.Common.{take, arith}
use Rattle.std.proofs.lemmas.List.{take_all}
use Rattle.change_codec.specs.Spelling.{dated_facts}
use Rattle.shortening.proofs.Noting.{facts_more}
use Rattle.shortening.proofs.whole.known_of.Goals as goal

pub loop-dated-init : goal.loop-dated-init
loop-dated-init c = c.of-listing.ensures (dated_facts c.args.changes.now) c.args.moment c.in_ok-unexpired.ensures

pub loop-dated-preserved : goal.loop-dated-preserved
loop-dated-preserved c =
    let ds = c.args.changes.now in
    rw (facts_more c.loop-dated.dated-index ds c.dated-item.result c.loop-dated-test.true c.dated-item.is)
    (c.in_ok-list.ensures (dated_facts ds) (dated_facts (take c.loop-dated.dated-index ds)) c.args.moment c.loop-dated.invariant)

pub returns : goal.returns
returns c =
    let ds = c.args.changes.now in
    let all = take_all c.loop-dated.dated-index ds (omega (arith, c.loop-dated-test.false)) in
    c.known.ensures (dated_facts ds) c.args.moment (rw all at c.loop-dated.invariant)
