use Rattle.std.proofs.Common.{rules, Some, refl}
use Rattle.state_keeper.proofs.Asked.{as_far, as_long, held_still, holds_still, knows_still}
use Rattle.state_keeper.proofs.Way.{keeps_of_call}
use Rattle.state_keeper.proofs.keeper.StateKeeperKeeper.tend.Goals as goal

pub invariant_of-self : goal.invariant_of-self
invariant_of-self g c = λ none.
    let device = g.D.Device in
    let file = c.self.inside.file in
    let new = c.tend.new.self in
    let keeps = keeps_of_call device file new c.in-Ok.ensures.settled c.in-Ok.ensures.same c.in-Ok.ensures.truth c.in-Ok.ensures.true_before in
    knows_still device file new keeps c.self.inside.known c.self.inside.shortening c.in-Ok.ensures.next (c.self.invariant none)

pub returns-in-Ok : goal.returns-in-Ok
returns-in-Ok g c =
    let device = g.D.Device in
    let file = c.self.inside.file in
    let new = c.tend.new.self in
    let s = c.self.inside.shortening in
    let keeps = keeps_of_call device file new c.in-Ok.ensures.settled c.in-Ok.ensures.same c.in-Ok.ensures.truth c.in-Ok.ensures.true_before in
    let all = holds_still device file new keeps c.self.inside.fault s c.self.inside.known (λ left may. g.met.D.Device.only_true new.device left may) in
    rw (← c.self.view_is) (record {
      tended = c.in-Ok.ensures.tended;
      kept = all.holds;
      lost = tt;
      fails = tt;
      works = search rules;
      no_further = as_far device file new keeps s;
      size = as_long device file new keeps;
      until = refl;
      basis = all.told;
      meanwhile = all.told.meanwhile;
    })

pub returns-in-Err : goal.returns-in-Err
returns-in-Err g c =
    let device = g.D.Device in
    let file = c.self.inside.file in
    let new = c.tend.new.self in
    let s = c.self.inside.shortening in
    let is = c.self.invariant (search rules) in
    let all = held_still device file new is.0 c.in-Err.ensures.any_moment c.in-Err.ensures.true_before c.self.inside.fault (Some c.in-Err.broken) s c.self.inside.known in
    rw (← c.self.view_is) (record {
      tended = tt;
      kept = tt;
      lost = all.held;
      fails = refl;
      works = tt;
      no_further = tt;
      size = tt;
      until = refl;
      basis = tt;
      meanwhile = all.told;
    })
