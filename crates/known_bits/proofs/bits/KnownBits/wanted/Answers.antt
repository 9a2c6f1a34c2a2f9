use Rattle.std.proofs.Common.{sym, ◌∙◌, arith, w64}
use Rattle.std.specs.Int.Bits.{and_zero_l}
use Rattle.known_bits.proofs.Names.{nat_tests, bit_not}
use Rattle.known_bits.proofs.Agreeing.{agrees_self, member_of_single, own_mask}
use Rattle.known_bits.proofs.Refining.{power_says}
use Rattle.known_bits.proofs.bits.KnownBits.wanted.Goals as goal

pub returns-in-Some-clause-told : goal.returns-in-Some-clause-told
returns-in-Some-clause-told c =
    let self = c.args.self in
    let power = c.in-Some.ensures.some.1 self.value (agrees_self self) in
    rw c.if-taken.true (record { only = λ x h. c.in-Some.ensures.some.1 x h ∙ sym power; inside = own_mask self.value self.fits; says = λ x. power_says self.value _ x power })

pub returns-then-self-eq0-clause-told : goal.returns-then-self-eq0-clause-told
returns-then-self-eq0-clause-told c =
    rw c.if-taken.false (record { only = λ x h. member_of_single c.args.self x c.if-self-eq0.true h; inside = and_zero_l (bit_not w64 c.args.self.value); says = λ x. (λ e. grind (arith, nat_tests), λ e. grind (arith, nat_tests)) })
