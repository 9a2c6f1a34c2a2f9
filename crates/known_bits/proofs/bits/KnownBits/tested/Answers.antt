use Rattle.std.proofs.Common.{◌≡◌, ap, ◌∙◌}
use Rattle.known_bits.proofs.Names.{seen}
use Rattle.known_bits.proofs.Agreeing.{agrees_self}
use Rattle.known_bits.proofs.Refining.{seen_zero, tested_has}
use Rattle.known_bits.proofs.bits.KnownBits.tested.Goals as goal

pub returns-in-Some-meet-clause-kept : goal.returns-in-Some-meet-clause-kept
returns-in-Some-meet-clause-kept c x y hx hy taken = (
  (c.in-Some-meet.ensures x).1 (hx, (tested_has c.args.width c.args.b c.in_width-tests.result c.new.result c.args.taken c.in-Some.wanted x y c.in_width-tests.ensures.value c.in_width-tests.ensures.mask c.in-Some.ensures.told c.new.ensures.value c.new.ensures.mask hx.word hy).0 taken),
  hy,
)

pub returns-in-None-meet-clause-kept : goal.returns-in-None-meet-clause-kept
returns-in-None-meet-clause-kept c x y hx hy taken =
    c.in-None-meet.ensures x hx
    ((tested_has c.args.width c.args.b c.in_width-tests.result c.new.result c.args.taken c.in-Some.wanted x y c.in_width-tests.ensures.value c.in_width-tests.ensures.mask c.in-Some.ensures.told c.new.ensures.value c.new.ensures.mask hx.word hy).0 taken)

pub returns-in-Some-meet-clause-settled : goal.returns-in-Some-meet-clause-settled
returns-in-Some-meet-clause-settled c k one x h =
    (tested_has c.args.width c.args.b c.in_width-tests.result c.new.result c.args.taken c.in-Some.wanted x c.args.b.value c.in_width-tests.ensures.value c.in_width-tests.ensures.mask c.in-Some.ensures.told c.new.ensures.value c.new.ensures.mask h.word (agrees_self c.args.b)).1
    ((c.in-Some-meet.ensures x).0 h).1

pub returns-in-None-clause-settled : goal.returns-in-None-clause-settled
returns-in-None-clause-settled c k one =
    let known : c.in_width-tests.result.mask ≡ 0 = c.in_width-tests.ensures.mask ∙ ap (seen c.args.width) one.known ∙ seen_zero c.args.width in
    absurd (c.in-None.ensures.none k known (c.in_width-tests.ensures.value ∙ one.one))

pub returns-in-Some-meet-clause-within : goal.returns-in-Some-meet-clause-within
returns-in-Some-meet-clause-within c = (λ x h. ((c.in-Some-meet.ensures x).0 h).0, λ x h. h)
