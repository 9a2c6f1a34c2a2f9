use Rattle.std.proofs.Common.{arith}
use Rattle.consent.specs.GrowthLaws.{consents_of-more}
use Rattle.consent.proofs.consents.Consents.count_of.Goals as goal

pub loop-seen-preserved-then-not-is_empty : goal.loop-seen-preserved-then-not-is_empty
loop-seen-preserved-then-not-is_empty c =
    let before = c.loop-seen.invariant in
    record {
      inside = omega (arith, c.loop-seen-test.true);
      few = omega (arith, before.few);
      counted = λ history fits. (let was = before.counted history fits in
          let more = consents_of-more history c.args.owner c.loop-seen.seen in
          let mask = c.get.ensures history fits in
          let some = c.if-not-is_empty.true in grind (arith, was, more, mask, some, c.is_empty.ensures, c.new.ensures));
    }

pub loop-seen-preserved : goal.loop-seen-preserved
loop-seen-preserved c =
    let before = c.loop-seen.invariant in
    record {
      inside = omega (arith, c.loop-seen-test.true);
      few = omega (arith, before.few);
      counted = λ history fits. (let was = before.counted history fits in
          let more = consents_of-more history c.args.owner c.loop-seen.seen in
          let mask = c.get.ensures history fits in
          let none = c.if-not-is_empty.false in grind (arith, was, more, mask, none, c.is_empty.ensures, c.new.ensures));
    }
