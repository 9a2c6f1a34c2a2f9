use Rattle.links.proofs.link.mixed.Goals as goal

pub returns : goal.returns
returns c = record {
  mask = c.exact-own.result;
  is_mask = rw c.from-bits.ensures at c.exact-own.ensures.single;
  rest = c.exact-rest.result;
  is_rest = rw c.from-bits.ensures at c.exact-rest.ensures.single;
  low = c.apply-low.result;
  is_low = record { sound = c.apply-low.ensures.sound; single = c.apply-low.ensures.single; least = c.apply-low.ensures.sums };
  high = c.apply-high.result;
  is_high = record { sound = c.apply-high.ensures.sound; single = c.apply-high.ensures.single; least = c.apply-high.ensures.sums };
  is_sum = record { sound = c.apply_by_parts.ensures.sound; single = c.apply_by_parts.ensures.single; least = c.apply_by_parts.ensures.sums };
}
