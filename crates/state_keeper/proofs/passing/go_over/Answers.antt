use Rattle.std.proofs.Common.{◌≤◌, ◌+◌, ℕ, List, subst, arith}
use Rattle.state_keeper.proofs.Names.{recovered}
use Rattle.state_keeper.proofs.Walked.{leads_on_then}
use Rattle.state_keeper.proofs.Way.{keeps_then}
use Rattle.state_keeper.specs.Passing.{hand, to_go_in}
use Rattle.state_keeper.specs.Seen.{IsFrameSize}
use Rattle.state_keeper.proofs.passing.go_over.Goals as goal

pub loop-gone-init : goal.loop-gone-init
loop-gone-init g c =
    let on = c.in_ok-stage.ensures.on in record {
      small = c.limit_of-limit.ensures;
      keeps = c.in_ok-stage.ensures.file;
      leads = on.leads;
      total = λ true front w less.
          let few = on.few true front w in
          let a = few.less in
          let b = few.moves in
          let far = c.moved-gone.ensures less in omega (arith, a, b, far);
      slice = λ true front w. (let few = on.few true front w in let a = few.less in (few.size, few.is_one, omega (arith, a)));
    }

pub loop-gone-preserved : goal.loop-gone-preserved
loop-gone-preserved g c =
    let device = g.D.Device in
    let rules = c.args.rules.now in
    let l = c.loop-gone in
    let first = hand c.args.file.now c.args.course.now c.args.stage in
    let mid = hand l.file l.course l.stage in
    let course = c.advance-in-loop-gone.new.course in
    let now = c.in_ok-stage-2.stage in
    let last = hand c.advance-in-loop-gone.new.file course now in
    let on = c.in_ok-stage-2.ensures.on in
    let file = c.in_ok-stage-2.ensures.file in
    let end = l.invariant.keeps.stands.end in
    let small = l.invariant.small in
    record {
      small = small;
      keeps = keeps_then device c.args.file.now l.file c.advance-in-loop-gone.new.file l.invariant.keeps file;
      leads = leads_on_then device rules first mid last end l.invariant.leads on.leads;
      total = λ true front w short.
          let one = on.few true front (l.invariant.leads.way front w) in
          let a = subst (λ (n : ℕ). to_go_in l.course l.stage n ≤ to_go_in course now n + (one.size + 17)) end one.less in
          let sum = c.saturating_add-gone.ensures in
          let prior = l.invariant.total (file.truth true) front w (omega (arith, short, sum)) in
          let far = c.moved.ensures (omega (arith, short, sum)) in
          let b = one.moves in omega (arith, short, prior, far, a, b, sum);
      slice = λ true front w.
          let one = on.few true front (l.invariant.leads.way front w) in
          let a = subst (λ (n : ℕ). to_go_in l.course l.stage n ≤ to_go_in course now n + (one.size + 17)) end one.less in
          let short = c.loop-gone-test.true in
          let prior = l.invariant.total (file.truth true) front w (omega (arith, short, small)) in (
            one.size,
            subst (λ (bytes : List ℕ). IsFrameSize (recovered bytes) one.size) l.invariant.keeps.stands.seen one.is_one,
            omega (arith, prior, a, short, small),
          );
    }
