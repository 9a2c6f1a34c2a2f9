use Rattle.std.proofs.Common.{rules, ap, refl, arith, length, ◌≡◌, ◌+◌, ◌∙◌, sym, take_all}
use Rattle.event_loop.specs.Places.{open_count}
use Rattle.event_loop.proofs.Putting.{none_open, one_open}
use Rattle.event_loop.proofs.service.Service.open_count.Goals as goal

pub loop-k-init : goal.loop-k-init
loop-k-init c = record { counted = refl; small = omega arith }

pub loop-k-preserved-then-not-is_taken : goal.loop-k-preserved-then-not-is_taken
loop-k-preserved-then-not-is_taken c = record {
  counted = c.loop-k.invariant.counted ∙ sym (none_open _ c.loop-k.k c.place_at.result c.place_at.ensures (sym c.is_taken.ensures.is ∙ c.if-not-is_taken.true));
  small = omega (arith, c.loop-k.invariant.small);
}

pub loop-k-preserved : goal.loop-k-preserved
loop-k-preserved c = record {
  counted = ap (λ n. n + 1) c.loop-k.invariant.counted ∙ sym (one_open _ c.loop-k.k c.place_at.result c.place_at.ensures (sym c.is_taken.ensures.is ∙ c.if-not-is_taken.false));
  small = omega (arith, c.loop-k.invariant.small);
}

pub returns : goal.returns
returns c =
    let size : length c.args.self.now.places ≡ 64 = search rules in
    c.loop-k.invariant.counted ∙ ap open_count (take_all c.loop-k.k c.args.self.now.places (omega (arith, size, c.loop-k-test.false)))
