use Rattle.known_bits.proofs.Witnesses.{complement_has}
use Rattle.known_bits.proofs.bits.KnownBits.complement.Goals as goal

pub returns-clause-has : goal.returns-clause-has
returns-clause-has c = complement_has c.args.self c.new.result (rw c.greatest.ensures at c.new.ensures.value) c.new.ensures.mask
