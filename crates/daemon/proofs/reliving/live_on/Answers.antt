use Rattle.std.proofs.Common.{◌≡◌, ◌-◌, ◌^◌, arith, inl, inr, refl}
use Rattle.daemon.proofs.Relived.{at_first, one_more, to_last}
use Rattle.daemon.proofs.reliving.live_on.Goals as goal

pub loop-nth-init : goal.loop-nth-init
loop-nth-init g c = at_first _ _ _ (record { life = c.args.first; replies = c.new.result })

pub loop-nth-preserved : goal.loop-nth-preserved
loop-nth-preserved g c = one_more _ _ _ c.loop-nth._nth (record { life = c.args.first; replies = c.new.result }) c.loop-nth.one c.in-Ok.next c.loop-nth.invariant c.in-Ok.ensures.follows

pub returns-in-Err : goal.returns-in-Err
returns-in-Err g c = record {
  before = c.new.result;
  silent = c.new.ensures;
  count = c.loop-nth._nth;
  onward = to_last _ _ _ c.loop-nth._nth (record { life = c.args.first; replies = c.new.result }) c.loop-nth.one c.in-Err.last c.loop-nth.invariant c.in-Err.ensures.same;
  over = λ ended. inl (c.in-Err.ensures.over ended);
}

pub returns : goal.returns
returns g c =
    let all : c.loop-nth._nth ≡ 2 ^ 64 - 1 = omega (arith, c.loop-nth-test.false, c.loop-nth.auto._nth-end) in record {
      before = c.new.result;
      silent = c.new.ensures;
      count = c.loop-nth._nth;
      onward = to_last _ _ _ c.loop-nth._nth (record { life = c.args.first; replies = c.new.result }) c.loop-nth.one c.loop-nth.one c.loop-nth.invariant refl;
      over = λ ended. inr all;
    }
