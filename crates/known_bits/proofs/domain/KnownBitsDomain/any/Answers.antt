use Rattle.std.proofs.Common.{◌^◌, ◌-◌, arith}
use Rattle.std.proofs.lemmas.Nat.Bits.{bit_at_ones}
use Rattle.known_bits.proofs.Agreeing.{agrees_below}
use Rattle.known_bits.proofs.domain.KnownBitsDomain.any.Goals as goal

pub returns : goal.returns
returns c x word = rw (c.new.ensures.value, c.new.ensures.mask) (agrees_below 0 (2 ^ 64 - 1) x word (omega arith) (λ k low clear. let ones = bit_at_ones 64 k low in absurd (omega arith)))
