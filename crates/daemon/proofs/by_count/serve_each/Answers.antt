use Rattle.std.proofs.Common.{◌≡◌, arith}
use Rattle.serving.specs.Served.{any_fault}
use Rattle.daemon.specs.ByCount.{none, one_more}
use Rattle.daemon.proofs.by_count.serve_each.Goals as goal

pub loop-served-init : goal.loop-served-init
loop-served-init g c = none

pub loop-served-preserved : goal.loop-served-preserved
loop-served-preserved g c = one_more c.loop-served.served (any_fault c.serve_one.result) c.loop-served.invariant (rw c.new.ensures at c.serve_one.ensures.served)

pub returns : goal.returns
returns g c =
    let all : c.loop-served.served ≡ c.args.count = omega (arith, c.loop-served-test.false, c.loop-served.auto.served-end) in
    rw all at c.loop-served.invariant
