use Rattle.std.proofs.Common.{arith, refl, inl, inr}
use Rattle.links.proofs.Linked.{among_met, back_met, none_among, none_back}
use Rattle.links.proofs.link.Link.refine_masked.Goals as goal

pub returns-clause-right : goal.returns-clause-right
returns-clause-right c x y at_a at_b l =
    let is_plus = (c.exact-plus.ensures.alone c.args.self.plus).1 refl in
    (among_met c.args.self c.args.mask c.requires (omega arith) c.exact-plus.result is_plus c.args.a c.args.b c.trace-traced.result c.trace-traced.ensures c.mixed-among.result c.mixed-among.ensures c.in_ok-a.a c.in_ok-a.ensures.right x y at_a at_b l, at_b)

pub returns-clause-narrowed : goal.returns-clause-narrowed
returns-clause-narrowed c = record {
  plus = c.exact-plus.result;
  is_plus = c.exact-plus.ensures.single;
  traced = c.trace-traced.result;
  is_traced = c.trace-traced.ensures;
  one = inl (record { mixed = c.mixed-among.result; is_mixed = c.mixed-among.ensures; other = c.in_ok-a.ensures.narrowed; own = refl });
}

pub returns-in_err-a-clause-right : goal.returns-in_err-a-clause-right
returns-in_err-a-clause-right c = rw c.from_residual-in_err-a.ensures (none_among c.args.self c.args.mask c.requires (omega arith) c.exact-plus.result ((c.exact-plus.ensures.alone c.args.self.plus).1 refl)
    c.args.a c.args.b c.trace-traced.result c.trace-traced.ensures c.mixed-among.result c.mixed-among.ensures c.in_err-a.ensures.right)

pub returns-in_err-b-clause-right : goal.returns-in_err-b-clause-right
returns-in_err-b-clause-right c = rw c.from_residual.ensures (none_back c.args.self c.args.mask c.requires (omega arith) c.exact-plus.result ((c.exact-plus.ensures.alone c.args.self.plus).1 refl)
    c.args.a c.args.b c.trace-traced.result c.trace-traced.ensures c.args.a c.mixed-back.result c.derive-derived.result c.mixed-back.ensures c.derive-derived.ensures c.in_err-b.ensures.right)

pub returns-then-has-2-clause-right : goal.returns-then-has-2-clause-right
returns-then-has-2-clause-right c x y at_a at_b l =
    let is_plus = (c.exact-plus.ensures.alone c.args.self.plus).1 refl in
    (at_a, back_met c.args.self c.args.mask c.requires (omega arith) c.exact-plus.result is_plus c.args.a c.args.b c.trace-traced.result c.trace-traced.ensures c.args.a c.mixed-back.result c.derive-derived.result c.mixed-back.ensures c.derive-derived.ensures c.in_ok-b.b c.in_ok-b.ensures.right x y at_a at_b l)

pub returns-then-has-2-clause-narrowed : goal.returns-then-has-2-clause-narrowed
returns-then-has-2-clause-narrowed c = record {
  plus = c.exact-plus.result;
  is_plus = c.exact-plus.ensures.single;
  traced = c.trace-traced.result;
  is_traced = c.trace-traced.ensures;
  one = inr (record {
    none = c.has.ensures.0 c.if-has.true;
    all = rw c.from.ensures at c.has-then-has.ensures.0 c.if-has-2.true;
    back = c.mixed-back.result;
    is_back = c.mixed-back.ensures;
    derived = c.derive-derived.result;
    is_derived = c.derive-derived.ensures;
    own = c.in_ok-b.ensures.narrowed;
    other = refl;
  });
}
