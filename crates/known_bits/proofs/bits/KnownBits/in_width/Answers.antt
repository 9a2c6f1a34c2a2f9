use Rattle.std.proofs.Common.{◌%◌, ◌^◌}
use Rattle.known_bits.proofs.Moving.{moved_apart, low_moves}
use Rattle.known_bits.proofs.bits.KnownBits.in_width.Goals as goal

pub new-requires : goal.new-requires
new-requires c = moved_apart (λ n. n % 2 ^ 32) c.args.self (low_moves 32)
