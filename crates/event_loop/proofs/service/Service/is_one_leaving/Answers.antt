use Rattle.std.proofs.Common.{rules, ◌≡◌, length, arith}
use Rattle.event_loop.proofs.Names.{slice_get_within}
use Rattle.event_loop.proofs.service.Service.is_one_leaving.Goals as goal

pub returns-in-Leaving-clause-one : goal.returns-in-Leaving-clause-one
returns-in-Leaving-clause-one c = λ yes. record {
  k = c.loop-k.k;
  place = c.place_at-place.result;
  here = c.place_at-place.ensures;
  left = c.in-Leaving._left;
  leaving = c.in-Leaving.is;
  lately = (let le = c.if-saturating_sub-self.false in let is = c.saturating_sub.ensures in omega (arith, le, is));
}

pub returns-clause-none : goal.returns-clause-none
returns-clause-none c = λ no one.
    let size : length c.args.self.now.places ≡ 64 = search rules in
    let within = slice_get_within c.args.self.now.places one.k one.place one.here in
    c.loop-k.invariant one.k one.place one.left (omega (arith, size, within, c.loop-k-test.false)) one.here one.leaving one.lately
