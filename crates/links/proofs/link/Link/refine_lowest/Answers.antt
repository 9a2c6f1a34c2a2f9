use Rattle.std.proofs.Common.{refl}
use Rattle.links.proofs.Linked.{derived_met, none_derived, none_traced, traced_met}
use Rattle.links.proofs.link.Link.refine_lowest.Goals as goal

pub returns-in_err-b-clause-right : goal.returns-in_err-b-clause-right
returns-in_err-b-clause-right c = rw c.from_residual.ensures (none_derived c.args.self c.args.width c.requires c.exact-plus.result ((c.exact-plus.ensures.alone c.args.self.plus).1 refl) c.args.a c.args.b c.derive-derived.result c.derive-derived.ensures c.in_err-b.ensures.right)

pub returns-in_err-a-clause-right : goal.returns-in_err-a-clause-right
returns-in_err-a-clause-right c = rw c.from_residual-in_err-a.ensures (λ x y at_a at_b l.
    let is_plus = (c.exact-plus.ensures.alone c.args.self.plus).1 refl in
    let met = derived_met c.args.self c.args.width c.requires c.exact-plus.result is_plus c.args.a c.args.b c.derive-derived.result c.derive-derived.ensures c.in_ok-b.b c.in_ok-b.ensures.right x y at_a at_b l in
    none_traced c.args.self c.args.width c.requires c.exact-plus.result is_plus c.args.a c.in_ok-b.b c.trace-traced.result c.trace-traced.ensures c.in_err-a.ensures.right x y at_a met l)

pub returns-clause-right : goal.returns-clause-right
returns-clause-right c x y at_a at_b l =
    let is_plus = (c.exact-plus.ensures.alone c.args.self.plus).1 refl in
    let met = derived_met c.args.self c.args.width c.requires c.exact-plus.result is_plus c.args.a c.args.b c.derive-derived.result c.derive-derived.ensures c.in_ok-b.b c.in_ok-b.ensures.right x y at_a at_b l in
    (traced_met c.args.self c.args.width c.requires c.exact-plus.result is_plus c.args.a c.in_ok-b.b c.trace-traced.result c.trace-traced.ensures c.in_ok-a.a c.in_ok-a.ensures.right x y at_a met l, met)

pub returns-clause-narrowed : goal.returns-clause-narrowed
returns-clause-narrowed c = record {
  plus = c.exact-plus.result;
  is_plus = c.exact-plus.ensures.single;
  derived = c.derive-derived.result;
  is_derived = c.derive-derived.ensures;
  second = c.in_ok-b.ensures.narrowed;
  traced = c.trace-traced.result;
  is_traced = c.trace-traced.ensures;
  first = c.in_ok-a.ensures.narrowed;
}
