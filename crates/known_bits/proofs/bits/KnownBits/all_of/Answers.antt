use Rattle.known_bits.proofs.Names.{seen_same, word_in_width}
use Rattle.known_bits.proofs.Results.{cut_has}
use Rattle.known_bits.proofs.bits.KnownBits.all_of.Goals as goal

pub returns : goal.returns
returns c x small = rw (seen_same c.args.width x small) at
    (cut_has c.args.width c.any.result c.in_width.result x c.in_width.ensures.value c.in_width.ensures.mask (c.any.ensures x (word_in_width c.args.width x small)))
