use Rattle.std.proofs.Common.{◌≡◌, ◌∙◌, bit_or, arith}
use Rattle.known_bits.proofs.Agreeing.{subset_le, least_in, in_greatest}
use Rattle.known_bits.proofs.bits.KnownBits.range.Goals as goal

pub returns-clause-members : goal.returns-clause-members
returns-clause-members c x h =
    let low = subset_le c.args.self.value x (least_in c.args.self x h) in
    let high = subset_le x (bit_or c.args.self.value c.args.self.mask) (in_greatest c.args.self x h) in
    let end : c.new.result.greatest ≡ bit_or c.args.self.value c.args.self.mask = c.new.ensures.to ∙ c.greatest.ensures in
    record { word = h.word; above = omega arith; below = omega arith }
