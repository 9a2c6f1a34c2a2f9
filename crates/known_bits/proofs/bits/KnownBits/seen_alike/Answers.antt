use Rattle.std.proofs.Common.{refl, arith}
use Rattle.known_bits.proofs.Results.{cut_has}
use Rattle.insn.specs.declared.operation.Width.TheVariants.{W32}
use Rattle.known_bits.proofs.Refining.{alike_has, alike_partner}
use Rattle.known_bits.proofs.bits.KnownBits.seen_alike.Goals as goal

pub returns-in-W32-clause-alike : goal.returns-in-W32-clause-alike
returns-in-W32-clause-alike c x y word h same =
    rw (c.new.ensures.value, c.new.ensures.mask)
    (alike_has c.in_width-low.result.value c.in_width-low.result.mask x y (omega arith) word
    (cut_has W32 c.args.self c.in_width-low.result x c.in_width-low.ensures.value c.in_width-low.ensures.mask h)
    (rw c.in-W32.is at same))

pub returns-in-W32-clause-partner : goal.returns-in-W32-clause-partner
returns-in-W32-clause-partner c y h =
    rw c.in-W32.is (alike_partner c.args.self c.in_width-low.result y c.in_width-low.ensures.value c.in_width-low.ensures.mask (rw (c.new.ensures.value, c.new.ensures.mask) at h))

pub returns-in-W64-clause-partner : goal.returns-in-W64-clause-partner
returns-in-W64-clause-partner c y h = record { partner = y; there = h; alike = refl }
