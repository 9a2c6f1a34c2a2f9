use Rattle.std.proofs.Common.{◌≡◌, refl, subst, sym}
use Rattle.std.specs.List.{AllByRecursion}
use Rattle.wire.specs.Lists.{each_onto}
use Rattle.wire.proofs.Each.{onto_more, all_more, one_of_all, at_end}
use Rattle.wire.proofs.lists.put_each.Goals as goal

pub loop-item-init : goal.loop-item-init
unfolding each_onto
loop-item-init g c = record { written = refl; fit = tt }

pub loop-item-preserved : goal.loop-item-preserved
loop-item-preserved g c = record {
  written = onto_more g.T.Wire.format g.T.Wire.value _ _ _ c.args.items.now c.loop-item.item-index c.item-item.result c.loop-item-test.true c.item-item.is c.loop-item.invariant.written c.in-Ok.ensures.written;
  fit = all_more g.T.Wire.format.Fits g.T.Wire.value c.args.items.now c.loop-item.item-index c.item-item.result c.loop-item-test.true c.item-item.is c.loop-item.invariant.fit c.in-Ok.ensures.fits;
}

pub returns-in-Err-clause-too_long : goal.returns-in-Err-clause-too_long
returns-in-Err-clause-too_long g c = λ long all.
    c.in-Err.ensures.too_long long (subst (λ x. g.T.Wire.format.Counts (g.T.Wire.value x)) (sym c.item-item.is) (one_of_all g.T.Wire.format.Counts g.T.Wire.value c.args.items.now c.loop-item.item-index c.item-item.result c.loop-item-test.true all))

pub returns-clause-written : goal.returns-clause-written
returns-clause-written g c = at_end (λ xs. c.loop-item.out.items ≡ each_onto g.T.Wire.format c.args.out.now.items xs) g.T.Wire.value c.args.items.now c.loop-item.item-index c.loop-item-test.false c.loop-item.invariant.written

pub returns-clause-fits : goal.returns-clause-fits
returns-clause-fits g c = at_end (AllByRecursion g.T.Wire.format.Fits) g.T.Wire.value c.args.items.now c.loop-item.item-index c.loop-item-test.false c.loop-item.invariant.fit
